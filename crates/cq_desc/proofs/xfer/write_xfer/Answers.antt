use Rattle.std.proofs.Common.{◌≡◌, ℕ, true, subst, sym}
use Rattle.cq_words.specs.Table.{Holds}
use Rattle.cq_desc.specs.Transfer.{high_table}
use Rattle.cq_desc.proofs.TransferLaws.{xfer_read-holds}
use Rattle.cq_desc.proofs.xfer.write_xfer.Goals as goal
use Rattle.cq_desc.proofs.xfer.write_xfer.Goals.{then-wide, else-wide}

pub returns-clause-read_again : goal.returns-clause-read_again
returns-clause-read_again c range =
    let H : ℕ → Type 0 = λ high. Holds high (high_table c.args.xfer.now) in
    let held : c.args.wide ≡ true → Holds c.if-wide.high (high_table c.args.xfer.now) =
    λ wide. elim c.if-wide.branch [
      | then-wide w ↦ subst H (sym w.high-is) w.high_word-high.ensures.holds
      | else-wide w ↦ let narrow = w.if-wide.false in cc
    ] in
    xfer_read-holds c.low_word.result c.if-wide.high c.args.wide c.args.xfer.now range c.low_word.ensures.holds held
