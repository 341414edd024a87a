use Rattle.std.proofs.Common.{◌≡◌, ◌+◌, None}
use Rattle.storage_machine.specs.Cuts.{next_left}
use Rattle.trace_effects.proofs.cut_effects.go_on_left.Goals as goal

pub returns-in-None : goal.returns-in-None
returns-in-None c = let none : next_left c.args.s.now.pend (c.args.sector + 1) ≡ None = cc (c.in-None.ensures, c.in-None.is, c.next_left.ensures) in rw none (c.last_left.ensures c.args.sector)
