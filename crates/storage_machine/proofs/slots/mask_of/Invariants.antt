use Rattle.std.proofs.Common.{◌≡◌}
use Rattle.storage_machine.specs.Slots.{mask_below}
use Rattle.storage_machine.proofs.slots.mask_of.Given as goal

abbrev pub invariant-loop-tag : goal.invariant-loop-tag
invariant-loop-tag l = l.mask ≡ mask_below l.question l.slots l.tag
