-- Where power is lost, the pages are near the state.
use Rattle.std.proofs.Common.{◌≡◌, Option, None, Some, IfSome, List, refl}
use Rattle.array_edge.specs.Array.{ArrayState}
use Rattle.cut_order.specs.Order.{OrderState}
use Rattle.dark_laws.proofs.Ends.{near_kept}
use Rattle.dark_laws.proofs.Pages.{pages_left}
use Rattle.intent_store.specs.Intent.{shown_by}
use Rattle.left_laws.specs.Lines.{CanBeLeft}
use Rattle.storage_machine.specs.declared.state.State.{State}
use Rattle.storage_model.specs.declared.block.Block.{Block}
use Rattle.world_state.specs.Path.{PathState}
use Rattle.world_state.specs.Stands.{IsNear}
use Rattle.world_state.specs.Told.{IsLosing}

near_by : (s : State) (shown : Option (List Block)) → IfSome shown (CanBeLeft s.base s.pend) → IfSome shown (IsNear s)
near_by s None can = tt
near_by s (Some after) can = near_kept s s after can.left refl refl

pub near_losing : (s : State) (p : PathState) (o : OrderState) (a : ArrayState) → IsLosing s p o a → IfSome (shown_by a) (IsNear s)
near_losing s p o a losing = near_by s (shown_by a) (pages_left s p o a losing)
