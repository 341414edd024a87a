-- An event of the card in which power stays: the store goes on, and a fault of the flash of no request is told.
use Rattle.std.proofs.Common.{◌≡◌, refl, sym, ◌∙◌, ap, subst}
use Rattle.std.specs.Prelude.{true, false, not, None, Result, Ok, Err, is_some, [], ◌∷◌}
use Rattle.std.proofs.lemmas.Bool.{and_right, false≢true}
use Rattle.array_edge.specs.Array.{ArrayState}
use Rattle.card_store.specs.Store.{IsSameStore, IsStore, Store, Turns, same}
use Rattle.card_store.specs.declared.ends.StageEnd.{StageEnd}
use Rattle.card_store.specs.declared.ends.StageEnd.TheVariants.{Empty, Flash, PowerLost}
use Rattle.cut_order.specs.Order.{OrderState}
use Rattle.storage_machine.specs.declared.state.State.{State}
use Rattle.storage_model.specs.declared.faults.Letter.TheVariants.{Card as CardActs}
use Rattle.storage_model.specs.declared.trace.Item.TheVariants.{Flash as FlashLine}
use Rattle.storage_order.specs.Events.{Fits, Happens, Lasts, end_rule, ended}
use Rattle.trace_effects.specs.Effects.{after_flash, begun, effect}
use Rattle.trace_rules.specs.Lines.{flash_holds, holds, line_rule}
use Rattle.world_state.specs.Laws.{StateLaws}
use Rattle.world_state.specs.Path.{PathState}
use Rattle.world_state.specs.Reading.{Context, data_of, state_of, tasks_of}
use Rattle.world_state.specs.Stands.{Agrees}
use Rattle.world_state.specs.Ties.{AreTied}
use Rattle.world_state.specs.Told.{Darkened}
use Rattle.power_laws.specs.Power.{CardEvent, CardStep, card_lines, is_lost, phase_cut}
use Rattle.power_laws.proofs.Darks.{card_darkens}
use Rattle.power_laws.proofs.Stored.{stored_ties, with_store}

-- what may have been staged is marked
abbrev staged_so : Context → Context
staged_so k = record k { staged = true }

abbrev marked : State → State
marked s = record s { staged = true }

state_stored : (p : PathState) (st : Store) (o : OrderState) (k : Context) → IsSameStore p.card.store st
    → state_of (with_store p st) o (staged_so k) ≡ marked (state_of p o k)
unfolding state_of tasks_of data_of
state_stored p st o k s = ap (λ n. record (state_of p o k) { staged = true; bars = n }) s.last

agrees_stored : (p : PathState) (a : ArrayState) (st : Store) (a' : ArrayState) (k : Context) → AreTied (with_store p st) → is_some a'.told ≡ is_some a.told
    → Turns same p.card.store a st a' → Agrees p a k → Agrees (with_store p st) a' (staged_so k)
agrees_stored p a st a' k tied told turns h = record {
  told = told ∙ h.told;
  tied = tied;
  number = h.number;
  named = record { long = h.named.long; waiting = h.named.waiting; issued = h.named.issued };
  store = turns _ h.store;
  within = h.within;
  read = h.read;
  few = h.few;
  deferred = λ through free kept few. absurd (false≢true (sym free));
}

silent : (p : PathState) (o : OrderState) (k : Context) → Happens (state_of p o k) CardActs [] (marked (state_of p o k))
unfolding state_of begun end_rule ended
silent p o k = record { free = refl; untold = refl; makes = (refl, refl) }

flash_fits : (s : State) → Fits (begun s CardActs) (FlashLine None)
unfolding begun line_rule holds flash_holds
flash_fits s = record { line = refl; stands = refl; first = refl }

flash_lasts : (p : PathState) (o : OrderState) (k : Context) → Lasts (begun (state_of p o k) CardActs) (FlashLine None) [] (marked (state_of p o k))
unfolding state_of begun effect after_flash
flash_lasts p o k = record {
  last = marked (state_of p o k);
  begins = record { told = refl; first = flash_fits (state_of p o k); phase = ap not (and_right (state_of p o k).busy false refl); more = refl };
  over = refl;
  event = refl;
  state = refl;
}

faults : (p : PathState) (o : OrderState) (k : Context) → Happens (state_of p o k) CardActs (FlashLine None ∷ []) (marked (state_of p o k))
unfolding state_of
faults p o k = record { free = refl; untold = refl; makes = flash_lasts p o k }

card_happens : (p : PathState) (o : OrderState) (k : Context) (result : Result (Unit {0}) StageEnd) → is_lost result ≡ false
    → Happens (state_of p o k) CardActs (card_lines p result) (marked (state_of p o k))
card_happens p o k (Ok u) lit = silent p o k
card_happens p o k (Err Empty) lit = silent p o k
card_happens p o k (Err Flash) lit = faults p o k
card_happens p o k (Err PowerLost) lit = absurd (false≢true (sym lit))

lost_lines : (p : PathState) (result : Result (Unit {0}) StageEnd) → is_lost result ≡ true → card_lines p result ≡ phase_cut p
lost_lines p (Ok u) dark = absurd (false≢true dark)
lost_lines p (Err Empty) dark = absurd (false≢true dark)
lost_lines p (Err Flash) dark = absurd (false≢true dark)
lost_lines p (Err PowerLost) dark = refl

card_step_so : StateLaws → (p : PathState) (a : ArrayState) (st : Store) (a' : ArrayState) (result : Result (Unit {0}) StageEnd) → AreTied p
    → IsSameStore p.card.store st → IsStore st → is_some a'.told ≡ is_some a.told → Turns same p.card.store a st a' → CardStep p a (with_store p st) a' result
card_step_so laws p a st a' result t s store told turns =
    let tied = stored_ties p st s store t in
    record {
      ties = tied;
      tells = λ lit o k h. record {
        context = staged_so k;
        agrees = agrees_stored p a st a' k tied told turns h;
        happens = subst (λ v. Happens (state_of p o k) CardActs (card_lines p result) v) (sym (state_stored p st o k s)) (card_happens p o k result lit);
      };
      darkens = λ dark o k h.
          subst (λ items. Darkened CardActs (state_of p o k) items (with_store p st) o a') (sym (lost_lines p result dark))
          (card_darkens laws p a st a' o k t h (record { told = told; store = store; turns = turns; still = λ free. absurd (false≢true (sym free)) }));
    }

pub card_steps : StateLaws → (p : PathState) (a : ArrayState) (p' : PathState) (a' : ArrayState) (result : Result (Unit {0}) StageEnd)
    → CardEvent p a p' a' result → AreTied p → CardStep p a p' a' result
card_steps laws p a p' a' result e t =
    subst (λ q. CardStep p a q a' result) (sym e.stored.path)
    (card_step_so laws p a p'.card.store a' result t e.stored.same e.stored.store e.ends.tells e.turns)
