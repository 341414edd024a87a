-- The loss of power in an event of the card or of power: the phase's line where one is under way, and the state that the cut comes to.
use Rattle.std.proofs.Common.{◌≡◌, ℕ, refl, sym, ◌∙◌, ap, subst}
use Rattle.std.specs.Prelude.{Bool, true, false, Option, Some, None, is_some, List, [], ◌∷◌, unwrap_or}
use Rattle.array_edge.specs.Array.{ArrayState}
use Rattle.card_store.specs.Store.{Store}
use Rattle.cut_order.specs.Order.{OrderState}
use Rattle.storage_machine.specs.Commands.{due, hit}
use Rattle.storage_machine.specs.declared.commands.DueCommand.TheVariants.{Execute}
use Rattle.storage_machine.specs.declared.state.Event.{Event}
use Rattle.storage_machine.specs.declared.state.Event.TheVariants.{Told}
use Rattle.storage_machine.specs.declared.state.State.{State}
use Rattle.storage_model.specs.declared.faults.Letter.{Letter}
use Rattle.storage_model.specs.declared.faults.Letter.TheVariants.{Card as CardActs, Cut as PowerActs}
use Rattle.storage_model.specs.declared.trace.Item.{Item}
use Rattle.storage_model.specs.declared.trace.Item.TheVariants.{Phase as PhaseLine}
use Rattle.storage_order.specs.Events.{Goes, is_untold}
use Rattle.trace_effects.specs.Effects.{begun}
use Rattle.trace_effects.specs.Phases.{is_of_power}
use Rattle.trace_rules.specs.Lines.{is_free}
use Rattle.trace_rules.specs.Phases.{is_whole, tag_due}
use Rattle.world_state.specs.Engine.{phase_line_of}
use Rattle.world_state.specs.Laws.{StateLaws}
use Rattle.world_state.specs.Path.{PathState, is_busy, job, moved, under_way}
use Rattle.world_state.specs.Reading.{Context, state_of}
use Rattle.world_state.specs.Stands.{Agrees}
use Rattle.world_state.specs.Ties.{AreTied, phase_words}
use Rattle.world_state.specs.Told.{CutFollows, Darkened, IsLosing}
use Rattle.power_laws.specs.Power.{phase_cut as cut_lines}
use Rattle.power_laws.proofs.Losing.{Loses, calm_losing, phase_heard, phase_jobs, phase_losing, phase_moves, phase_number}
use Rattle.power_laws.proofs.PhaseEnds.{card_woken, execute_holds, goes_next, is_done, no_phase_cut, owed_then, phase_begins, phase_cut, phase_effect, phase_over, power_event, power_of, power_woken, woken}
use Rattle.power_laws.proofs.Stored.{with_store}
use Rattle.power_laws.proofs.UnderWay.{UnderWay, moved_is, phase_due, phase_executes, phase_is_due, under_way_of}

free_is : (p : PathState) (o : OrderState) (k : Context) → is_free (state_of p o k).owed ≡ true
unfolding state_of
free_is p o k = refl

untold_is : (p : PathState) (o : OrderState) (k : Context) → is_untold (state_of p o k).event ≡ true
unfolding state_of
untold_is p o k = refl

busy_is : (p : PathState) (o : OrderState) (k : Context) → (state_of p o k).busy ≡ is_busy p
unfolding state_of
busy_is p o k = refl

staged_is : (p : PathState) (o : OrderState) (k : Context) → (state_of p o k).staged ≡ k.staged
unfolding state_of
staged_is p o k = refl

-- lines behind which the cut may come, from where the event has begun
record Ends (s : State) (event : Event) (staged : Bool) (items : List Item) (q : PathState) (o : OrderState) (a' : ArrayState) : Type 0 where
  pub last : State
  pub goes : Goes (woken s event staged) items last
  pub cut : CutFollows items last
  pub losing : IsLosing last q o a'

calm_ends : (p : PathState) (a : ArrayState) (st : Store) (a' : ArrayState) (o : OrderState) (k : Context) (event : Event) (staged : Bool) → is_of_power event ≡ true
    → under_way p ≡ None → Agrees p a k → Loses p a k st a' staged → Ends (state_of p o k) event staged [] (with_store p st) o a'
calm_ends p a st a' o k event staged power way h l = record {
  last = woken (state_of p o k) event staged;
  goes = refl;
  cut = no_phase_cut (state_of p o k) event staged power (busy_is p o k ∙ ap (λ w. is_some w) way);
  losing = calm_losing p a o k st a' event staged way h l;
}

phase_ends : StateLaws → (p : PathState) (a : ArrayState) (st : Store) (a' : ArrayState) (o : OrderState) (k : Context) (event : Event) (staged : Bool) (tag : ℕ)
    → is_of_power event ≡ true → (u : UnderWay p tag) → AreTied p → Agrees p a k → Loses p a k st a' staged
    → Ends (state_of p o k) event staged (PhaseLine p.script.sent u.id u.h.moved false ∷ []) (with_store p st) o a'
phase_ends laws p a st a' o k event staged tag power u t h l =
    let s : State = state_of p o k in
    let n = p.script.sent in
    let kind = p.script.hit in
    let law = laws.engine p o k h.tied h.number in
    let busy : is_busy p ≡ true = ap (λ w. is_some w) u.way in
    let due_is : due s ≡ Execute tag = law.command (phase_due p tag) (phase_is_due p tag t u) ∙ phase_executes p tag in
    let hit_is : hit s ≡ kind = law.under_way busy in
    let line = execute_holds s event staged tag u.id u.h.moved n kind (job p u.id) due_is (phase_number p a o k h busy) (phase_heard p tag t u)
    (phase_moves p a o k tag u t h hit_is) in
    let effect_is = phase_effect s event staged tag u.id u.h.moved n kind (job p u.id) power (ap tag_due due_is) hit_is (phase_jobs p o k u.id) in
    let done : Bool = is_done s (job p u.id) u.h.moved kind in
    let owed = owed_then s (job p u.id) n u.id u.h.moved kind in
    let next = goes_next kind (is_whole s.plan.through (job p u.id) u.h.moved false) n u.id u.h.moved in
    let last : State = phase_over s event staged (job p u.id) u.h.moved tag u.id n done owed in
    record {
      last = last;
      goes = phase_begins s event staged n u.id u.h.moved last power (busy_is p o k ∙ busy) line effect_is;
      cut = phase_cut s event staged (job p u.id) u.h.moved tag u.id n done owed (PhaseLine n u.id u.h.moved false) power next;
      losing = phase_losing p a o k st a' event staged tag u done owed h l next.0.0;
    }

-- the lines are those of what the card began
lines_none : (p : PathState) → AreTied p → under_way p ≡ None → cut_lines p ≡ []
lines_none p t way = ap (phase_line_of p p) (t.begun ∙ ap (phase_words p) way)

lines_some : (p : PathState) (tag : ℕ) (u : UnderWay p tag) → AreTied p → cut_lines p ≡ PhaseLine p.script.sent u.id u.h.moved false ∷ []
lines_some p tag u t =
    ap (phase_line_of p p) (t.begun ∙ ap (phase_words p) u.way)
    ∙ ap (λ id. PhaseLine p.script.sent (unwrap_or id 0) (moved p) false ∷ []) u.is_held
    ∙ ap (λ n. PhaseLine p.script.sent u.id n false ∷ []) (moved_is p tag u)

ends_by : StateLaws → (p : PathState) (a : ArrayState) (st : Store) (a' : ArrayState) (o : OrderState) (k : Context) (event : Event) (staged : Bool) (way : Option ℕ)
    → under_way p ≡ way → is_of_power event ≡ true → AreTied p → Agrees p a k → Loses p a k st a' staged
    → Ends (state_of p o k) event staged (cut_lines p) (with_store p st) o a'
ends_by laws p a st a' o k event staged None is power t h l =
    subst (λ items. Ends (state_of p o k) event staged items (with_store p st) o a') (sym (lines_none p t is))
    (calm_ends p a st a' o k event staged power is h l)
ends_by laws p a st a' o k event staged (Some tag) is power t h l =
    let u = under_way_of p tag t is in
    subst (λ items. Ends (state_of p o k) event staged items (with_store p st) o a') (sym (lines_some p tag u t))
    (phase_ends laws p a st a' o k event staged tag power u t h l)

darkened : StateLaws → (actor : Letter) (p : PathState) (a : ArrayState) (st : Store) (a' : ArrayState) (o : OrderState) (k : Context) (event : Event) (staged : Bool)
    → is_of_power event ≡ true → begun (state_of p o k) actor ≡ woken (state_of p o k) event staged → AreTied p → Agrees p a k → Loses p a k st a' staged
    → Darkened actor (state_of p o k) (cut_lines p) (with_store p st) o a'
darkened laws actor p a st a' o k event staged power is t h l =
    let e = ends_by laws p a st a' o k event staged (under_way p) refl power t h l in
    record {
      last = e.last;
      starts = record {
        free = free_is p o k;
        untold = untold_is p o k;
        goes = subst (λ b. Goes b (cut_lines p) e.last) (sym is) e.goes;
      };
      cut = e.cut;
      losing = e.losing;
    }

-- of the card
pub card_darkens : StateLaws → (p : PathState) (a : ArrayState) (st : Store) (a' : ArrayState) (o : OrderState) (k : Context) → AreTied p → Agrees p a k
    → Loses p a k st a' true → Darkened CardActs (state_of p o k) (cut_lines p) (with_store p st) o a'
card_darkens laws p a st a' o k t h l = darkened laws CardActs p a st a' o k (Told CardActs) true refl (card_woken (state_of p o k)) t h l

-- of power
pub power_darkens : StateLaws → (p : PathState) (a : ArrayState) (o : OrderState) (k : Context) → Agrees p a k
    → Darkened PowerActs (state_of p o k) (cut_lines p) p o a
power_darkens laws p a o k h =
    let s : State = state_of p o k in
    darkened laws PowerActs p a p.card.store a o k (power_event s) s.staged (power_of s) (power_woken s) h.tied h
    (record { told = refl; store = h.tied.store; turns = λ c stands. stands; still = λ free. (sym (staged_is p o k) ∙ free, refl) })
