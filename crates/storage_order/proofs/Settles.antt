-- Going to the event of a line changes neither the plan nor the number of sectors.
use Rattle.std.proofs.Common.{length, ap}
use Rattle.storage_machine.specs.declared.state.State.{State}
use Rattle.storage_model.specs.declared.trace.Item.{Item}
use Rattle.storage_order.proofs.Silents.{settled_silent}
use Rattle.storage_order.specs.Order.{settled}
use Rattle.storage_order.specs.declared.order.Silent.{Silent}
use Rattle.trace_effects.proofs.Sounds.{Keeps}

pub settled_keeps : (s : State) (item : Item) (silent : Silent) → Keeps s (settled s item)
settled_keeps s item silent =
    let e = settled_silent s item silent in
    record { plan = ap (λ t. t.plan) e; sectors = ap (λ t. length t.base) e }
