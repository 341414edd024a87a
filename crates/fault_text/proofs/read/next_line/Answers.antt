use Rattle.std.proofs.Common.{subst}
use Rattle.fault_text.specs.declared.line.FaultLine.{FaultLine}
use Rattle.fault_text.specs.Tally.{Follows}
use Rattle.fault_text.proofs.LineWords.{one_fault}
use Rattle.fault_text.proofs.read.next_line.Goals as goal

pub returns-in-None : goal.returns-in-None
returns-in-None c = (
  tt,
  λ line next.
      let read = rw c.in-Some.is at c.in_ok-line.ensures in
      let same = one_fault c.args.text.now line c.in-Some.line next.valid read.0 next.is read.1 in
      let P : FaultLine → Type 0 = λ fault. Follows c.args.tally fault in
      c.in-None.ensures.none next.room (subst P same next.follows),
)
