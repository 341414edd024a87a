use Rattle.storage_order.specs.Accept.{started}
use Rattle.storage_order.proofs.accept.MState.start.Goals as goal

pub invariant_of-result : goal.invariant_of-result
unfolding started
invariant_of-result c = rw c.in_ok-state.ensures (record { base = c.requires.sectors; jobs = c.requires.valid.job })
