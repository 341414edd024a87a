use Rattle.storage_machine.proofs.Changes.{Changes}
use Rattle.storage_machine.proofs.slots.change_slots.Given as goal

abbrev pub invariant-loop-tag : goal.invariant-loop-tag
invariant-loop-tag l = Changes l.change l.tag l.slots l.initial.slots
