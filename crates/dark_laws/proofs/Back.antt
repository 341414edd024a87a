-- The lines from the cut to the next event, and the path set up anew behind them.
use Rattle.std.proofs.Common.{◌≡◌, ◌∙◌, ℕ, ◌++◌, is_none, Bool, true, false, None, IfSome, List, ◌∷◌, length, refl, ap, sym, subst, arith}
use Rattle.std.proofs.lemmas.List.{ext_get_or, length-map}
use Rattle.std.proofs.Math.ListN.{get_or-map}
use Rattle.array_edge.specs.Array.{ArrayState}
use Rattle.bus_link.specs.Script.{Script}
use Rattle.card_core.specs.Card.{CardState}
use Rattle.cut_laws.proofs.Darks.{cuts_shown, power_shown}
use Rattle.cut_laws.proofs.Lose.{lost_shown}
use Rattle.cut_laws.specs.Laws.{AreGone, LosesRequests, MayBeShown, dark, further_cuts}
use Rattle.cut_laws.specs.Lost.{AreLost, id_in, ids_in, lost_lines}
use Rattle.cut_order.specs.Order.{OrderState, order_of}
use Rattle.drv_jobs.specs.Sound.{IsSound}
use Rattle.left_laws.proofs.Shows.{more_append}
use Rattle.left_laws.specs.Laws.{after_power}
use Rattle.left_laws.specs.Lines.{CanBeLeft, left_lines}
use Rattle.storage_machine.specs.Cuts.{next_left}
use Rattle.storage_machine.specs.declared.state.State.{State}
use Rattle.storage_model.specs.declared.block.Block.{Block}
use Rattle.storage_model.specs.declared.trace.Item.TheVariants.{On}
use Rattle.storage_order.specs.Events.{More}
use Rattle.trace_effects.specs.Effects.{first_cut}
use Rattle.dark_laws.proofs.Anew.{agrees_anew, context_of, gone, lit, state_is}
use Rattle.dark_laws.proofs.Held.{cut_first, cut_is, slots_kept}
use Rattle.dark_laws.proofs.Pages.{pages_left}
use Rattle.dark_laws.proofs.TiedAnew.{tied_anew}
use Rattle.dark_laws.specs.Anew.{IsBack, IsSetAnew, Leads, Outlasts, back_lines, set_anew}
use Rattle.world_state.specs.Path.{PathState}
use Rattle.world_state.specs.Reading.{state_of}
use Rattle.world_state.specs.Ties.{AreTied}
use Rattle.world_state.specs.Told.{ComesBack, IsLosing, IsUnjudged}

-- the slots have the requests that the driver holds, and still at the cut
ids_before : (s : State) (p : PathState) (o : OrderState) (a : ArrayState) → IsSound p.driver.requests → IsLosing s p o a → p.driver.requests.holders ≡ ids_in s.slots
ids_before s p o a sound losing =
    let long = losing.slots in
    let held = sound.holders in
    let size : length (ids_in s.slots) ≡ length s.slots = length-map s.slots id_in in
    ext_get_or None p.driver.requests.holders (ids_in s.slots) (omega (arith, long, held, size))
    (λ tag few. sym (losing.issued tag (omega (arith, few, held))) ∙ sym (get_or-map id_in s.slots tag None))

pub ids_held : (s : State) (p : PathState) (o : OrderState) (a : ArrayState) → IsSound p.driver.requests → IsLosing s p o a → p.driver.requests.holders ≡ ids_in (first_cut s).slots
ids_held s p o a sound losing = ids_before s p o a sound losing ∙ ap (λ slots. ids_in slots) (sym (slots_kept s p o a sound losing))

-- where nothing was judged, the state behind the last line is the same with and without puts
last_by : (s : State) (p : PathState) (after : List Block) (b : Bool) → is_none (next_left s.pend 0) ≡ b → IsUnjudged s → after_power (gone s p) after ≡ lit s p after
last_by s p after true is unjudged =
    rw is (ap (λ x. record (lit s p after) { deferred = x; lefts = s.lefts; epochs = s.epochs }) unjudged.deferred
    ∙ ap (λ x. record (lit s p after) { lefts = x; epochs = s.epochs }) unjudged.lefts
    ∙ ap (λ x. record (lit s p after) { epochs = x }) unjudged.epochs)
last_by s p after false is unjudged = rw is refl

module _ (s : State) (p : PathState) (o : OrderState) (a : ArrayState) (tied : Outlasts p) (losing : IsLosing s p o a) (ids : List ℕ) (cuts : ℕ) (after : List Block) (leads : Leads p a ids cuts after) where
  pub can : CanBeLeft s.base s.pend after
  can = subst (λ shown. IfSome shown (CanBeLeft s.base s.pend)) leads.shows (pages_left s p o a losing)

  pub all_gone : AreGone (gone s p)
  all_gone = record { slots = refl; event = refl }

  may : MayBeShown (gone s p) cuts after
  may = record { gone = all_gone; few = leads.few; within = losing.within; can = can }

  pub loses : LosesRequests (first_cut s) p.driver.requests.waiting true (lost_lines ids)
  loses = lost_shown p.driver.requests.waiting (first_cut s) true ids (cut_first s p o a tied.sound losing)
      (subst (λ holders. AreLost 0 holders true ids) (ids_held s p o a tied.sound losing) leads.lost)

  pub lost : More (first_cut s) (lost_lines ids) (gone s p)
  lost = subst (λ u. More (first_cut s) (lost_lines ids) u) (loses.whole refl) loses.follow.more

  rest : More (gone s p) (further_cuts cuts ++ On ∷ left_lines s.pend after) (lit s p after)
  rest =
      subst (λ u. More (gone s p) (further_cuts cuts ++ On ∷ left_lines s.pend after) u) (last_by s p after (is_none (next_left s.pend 0)) refl losing.unjudged)
      (more_append (gone s p) (dark (gone s p) cuts) (after_power (gone s p) after) (further_cuts cuts) (On ∷ left_lines s.pend after)
      (cuts_shown (gone s p) cuts all_gone (let few = leads.few in omega (arith, few))) (power_shown (gone s p) cuts after may))

  pub lines_back : More (first_cut s) (back_lines s ids cuts after) (lit s p after)
  lines_back = more_append (first_cut s) (gone s p) (lit s p after) (lost_lines ids) (further_cuts cuts ++ On ∷ left_lines s.pend after) lost rest

  back_from : (card : CardState) (script : Script) (a' : ArrayState) → IsSetAnew p a (set_anew p card script) a' → AreTied (set_anew p card script) → ComesBack s (back_lines s ids cuts after) (set_anew p card script) a'
  back_from card script a' anew tied' =
      let from = cut_is s losing.unjudged.lit in
      record {
        context = context_of s after;
        agrees = agrees_anew s p o a a' card script losing anew.script anew.card after tied tied' anew.shown leads.shows can.size;
        last = lit s p after;
        more = subst (λ u. More u (back_lines s ids cuts after) (lit s p after)) (sym from) lines_back;
        over = refl;
        event = refl;
        state = ap (λ u. state_of (set_anew p card script) (order_of u) (context_of s after)) from ∙ state_is s p o a a' card script losing anew.script anew.card after;
      }

pub is_back : (s : State) (p : PathState) (o : OrderState) (a : ArrayState) (p' : PathState) (a' : ArrayState) → IsBack s p o a p' a'
is_back s p o a p' a' tied losing anew ids cuts after leads =
    let P : PathState → Type 0 = λ x. ComesBack s (back_lines s ids cuts after) x a' in
    let Q : PathState → Type 0 = λ x. IsSetAnew p a x a' in
    subst P (sym anew.path)
    (back_from s p o a tied losing ids cuts after leads p'.card p'.script a' (subst Q anew.path anew) (subst AreTied anew.path (tied_anew p a p' a' tied anew)))
