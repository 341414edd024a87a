-- The flush that ends a run: the ties stay, and where power is lost in it while nothing is to do, the cut may come at once.
use Rattle.std.proofs.Common.{◌≡◌, refl, sym, subst}
use Rattle.std.specs.Prelude.{Result, Ok, Err, IsErrOf, OnErr, is_some}
use Rattle.array_edge.specs.Array.{ArrayState}
use Rattle.card_store.specs.Store.{IsSameStore, IsStore, Store, Turns, same}
use Rattle.intent_store.specs.declared.ends.StoreEnd.{StoreEnd}
use Rattle.intent_store.specs.declared.ends.StoreEnd.TheVariants.{PowerLost as FlushLost}
use Rattle.world_state.specs.Path.{PathState, under_way}
use Rattle.world_state.specs.Ties.{AreTied}
use Rattle.power_laws.specs.Power.{FlushEvent, FlushStep}
use Rattle.power_laws.proofs.Losing.{idle_losing}
use Rattle.power_laws.proofs.Stored.{stored_ties, with_store}
use Rattle.power_laws.proofs.NothingToDo.{no_phase}

turns_of : (p : PathState) (a : ArrayState) (st : Store) (a' : ArrayState) (result : Result (Unit {0}) StoreEnd) → IsErrOf result FlushLost
    → OnErr result (Turns same p.card.store a st a') → Turns same p.card.store a st a'
turns_of p a st a' (Ok u) lost turns = absurd (cc lost)
turns_of p a st a' (Err end) lost turns = turns

flush_step_so : (p : PathState) (a : ArrayState) (st : Store) (a' : ArrayState) (result : Result (Unit {0}) StoreEnd) → AreTied p
    → IsSameStore p.card.store st → IsStore st → is_some a'.told ≡ is_some a.told → OnErr result (Turns same p.card.store a st a')
    → FlushStep p a (with_store p st) a' result
flush_step_so p a st a' result t s store told turns = record {
  ties = stored_ties p st s store t;
  losing = λ lost o k h none.
      idle_losing p a o k st a' (no_phase p o k (under_way p) refl t none) h told (turns_of p a st a' result lost turns) none;
}

pub flush_steps : (p : PathState) (a : ArrayState) (p' : PathState) (a' : ArrayState) (result : Result (Unit {0}) StoreEnd) → FlushEvent p a p' a' result
    → AreTied p → FlushStep p a p' a' result
flush_steps p a p' a' result e t =
    subst (λ q. FlushStep p a q a' result) (sym e.stored.path)
    (flush_step_so p a p'.card.store a' result t e.stored.same e.stored.store e.ends.tells e.err)
