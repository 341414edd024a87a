-- A phase yields to the `cut` line of its own number: in an event of the host, and where power is lost.
use Rattle.std.proofs.Common.{◌≡◌, ◌==◌, ◌+◌, ◌≤◌, ◌++◌, ℕ, refl, sym, ◌∙◌, ap, subst, arith, Bool, true, false, List, [], ◌∷◌}
use Rattle.std.specs.Prelude.{cond, is_some, ◌&&◌, Option, Some, None}
use Rattle.std.proofs.lemmas.Bool.{and_left, and_parts, eq-eqb, eqb-false, eqb-true, true≢false}
use Rattle.array_edge.specs.Array.{ArrayState}
use Rattle.card_core.specs.declared.phase.Phase.{Phase}
use Rattle.cut_order.specs.Order.{is_line_due, next_letter}
use Rattle.drv_core.specs.declared.act.Act.{Act}
use Rattle.drv_core.specs.declared.act.Act.TheVariants.{Nothing, Issued, Collected, Failed, Step as Stepped}
use Rattle.drv_core.specs.declared.act.Stop.{Stop}
use Rattle.drv_core.specs.declared.act.Stop.TheVariants.{Retry, Bus, Flash, Range}
use Rattle.drv_recover.specs.declared.recovery.Step.{Step}
use Rattle.drv_recover.specs.declared.recovery.Step.TheVariants.{Moved, Discard, Again, Over, Dark}
use Rattle.storage_machine.specs.Commands.{due}
use Rattle.storage_machine.specs.Cuts.{has_own_line, is_due}
use Rattle.storage_machine.specs.declared.state.Event.TheVariants.{Told, Due}
use Rattle.storage_machine.specs.declared.state.Owed.TheVariants.{Nothing as NothingOwed}
use Rattle.storage_machine.specs.declared.state.State.{State}
use Rattle.storage_model.specs.declared.faults.Letter.{Letter}
use Rattle.storage_model.specs.declared.faults.Letter.TheVariants.{Cut as PowerActs}
use Rattle.storage_model.specs.declared.trace.Item.{Item}
use Rattle.storage_model.specs.declared.trace.Item.TheVariants.{Phase as PhaseLine}
use Rattle.storage_runs.proofs.Turns.{due_owed}
use Rattle.storage_runs.specs.Runs.{Yields, begun_next}
use Rattle.trace_effects.specs.Effects.{begun}
use Rattle.trace_rules.specs.Steps.{is_cut_by, is_due_event, is_execute}
use Rattle.world_state.specs.Engine.{id_at, phase_line_of}
use Rattle.world_state.specs.Host.{fault_lines, host_lines}
use Rattle.world_state.specs.Path.{PathState, is_busy, moved, under_way}
use Rattle.world_state.specs.Reading.{Context, state_of}
use Rattle.world_state.specs.Stands.{Agrees}
use Rattle.world_state.specs.Ties.{phase_words}
use Rattle.world_steps.specs.Reading.{phase_cut}
use Rattle.world_steps.specs.World.{IsPrompt, WorldState, chosen_by, chosen_of, is_cut_due, is_to_do, order_in, shows_letter}
use Rattle.world_steps.proofs.OwnLines.{no_own, own_begun}
use Rattle.world_steps.proofs.Prompts.{letter_due}
use Rattle.world_steps.proofs.ReadOff.{due_is, world_letter}

-- where the phase's number has no line, any lines may come
pub yields_any : (s : State) (items : List Item) → is_cut_by s ≡ false → Yields s items
yields_any s [] e = tt
yields_any s (PhaseLine n id count kept ∷ items) e = ap (λ b. cond b (is_due_event s.event && (count == 0)) true) e
yields_any s (item ∷ items) e = refl

-- the lines of the host begin with no phase
failed_yields : (s : State) (id : Option ℕ) (why : Stop) (items : List Item) → Yields s items → Yields s (fault_lines id why ++ items)
failed_yields s None why items rest = rest
failed_yields s (Some id) Retry items rest = rest
failed_yields s (Some id) Bus items rest = refl
failed_yields s (Some id) Flash items rest = refl
failed_yields s (Some id) Range items rest = refl

pub host_yields : (s : State) (p p' : PathState) (act : Act) → Yields s (host_lines p p' act)
host_yields s p p' Nothing = tt
host_yields s p p' (Issued id tag) = refl
host_yields s p p' (Collected mask) = refl
host_yields s p p' (Failed id why) = failed_yields s id why _ refl
host_yields s p p' (Stepped Moved) = tt
host_yields s p p' (Stepped Discard) = refl
host_yields s p p' (Stepped (Again kind)) = refl
host_yields s p p' (Stepped Over) = tt
host_yields s p p' (Stepped Dark) = tt

-- an event that has begun, with its letter used
pub begun_is : (w : WorldState) (a : ArrayState) (c : Context) → Agrees w.path a c → (actor : Letter)
    → begun_next (state_of w.path w.order c) actor ≡ begun (state_of w.path (order_in w actor) c) actor
begun_is w a c g actor = ap (λ s. begun s actor) (world_letter w a c g actor)

pub no_cut_by : (w : WorldState) (a : ArrayState) (c : Context) (actor : Letter) → Agrees w.path a c → is_busy w.path ≡ true → is_cut_due w ≡ false
    → is_cut_by (begun (state_of w.path (order_in w actor) c) actor) ≡ false
no_cut_by w a c actor g busy none =
    let s = state_of w.path (order_in w actor) c in
    and_left (has_own_line (begun s actor)) (is_execute (due (begun s actor))) (own_begun s actor ∙ no_own w a c actor g busy none)

-- the event of a due cut
due_event : (s : State) → is_due s ≡ true → is_due_event (begun s PowerActs).event ≡ true
unfolding begun
due_event s e = ap (λ b. is_due_event (cond b Due (Told PowerActs))) (due_owed s NothingOwed ∙ e)

due_letter : (w : WorldState) (a : ArrayState) (c : Context) (actor : Letter) → Agrees w.path a c → is_cut_due w ≡ true
    → is_due (state_of w.path (order_in w actor) c) ≡ true
unfolding is_cut_due
due_letter w a c actor g e =
    due_is w.path a (order_in w actor) c g
    ∙ ap (λ b. is_to_do w.path && b) (letter_due w.order (shows_letter w actor) w.path.script.sent) ∙ e

line_is_due : (w : WorldState) → is_cut_due w ≡ true → is_line_due w.order w.path.script.sent ≡ true
unfolding is_cut_due
line_is_due w e = (and_parts (is_to_do w.path) (is_line_due w.order w.path.script.sent) e).1

power_chosen : (w : WorldState) → is_cut_due w ≡ true → chosen_of w ≡ PowerActs
unfolding chosen_of
power_chosen w e = ap (λ b. cond b PowerActs (chosen_by w.path (next_letter w.order))) e

-- then no block has moved
none_moved : (w : WorldState) → IsPrompt w → is_busy w.path ≡ true → is_cut_due w ≡ true → (moved w.path == 0) ≡ true
none_moved w prompt busy e = by (moved w.path == 0) refl
  where
    by : (b : Bool) → (moved w.path == 0) ≡ b → (moved w.path == 0) ≡ true
    by true f = f
    by false f =
        let more = eqb-false (moved w.path) 0 f in
        absurd (true≢false (sym (line_is_due w e) ∙ prompt busy (some_moved (moved w.path) more)))
      where
        some_moved : (n : ℕ) → (n ≡ 0 → ⊥) → 1 ≤ n
        some_moved n more = omega (arith, more)

yields_due : (s : State) (n id count : ℕ) (kept : Bool) → is_due_event s.event ≡ true → (count == 0) ≡ true → Yields s (PhaseLine n id count kept ∷ [])
yields_due s n id count kept e f =
    ap (λ b. cond (is_cut_by s) (b && (count == 0)) true) e ∙ ap (λ b. cond (is_cut_by s) b true) f ∙ always (is_cut_by s)
  where
    always : (b : Bool) → cond b true true ≡ true
    always true = refl
    always false = refl

-- power is lost
cut_yields : (w : WorldState) (a : ArrayState) (c : Context) → Agrees w.path a c → IsPrompt w → (actor : Letter) → (cut : Bool) → is_cut_due w ≡ cut
    → actor ≡ chosen_of w → (way : Option ℕ) → under_way w.path ≡ way
    → Yields (begun (state_of w.path (order_in w actor) c) actor) (phase_line_of w.path w.path (phase_words w.path way))
cut_yields w a c g prompt actor cut e is None f = tt
cut_yields w a c g prompt actor false e is (Some tag) f =
    yields_any (begun (state_of w.path (order_in w actor) c) actor) (phase_line_of w.path w.path (phase_words w.path (Some tag)))
    (no_cut_by w a c actor g (ap is_some f) e)
cut_yields w a c g prompt actor true e is (Some tag) f =
    let S : Letter → Type 0 = λ actor.
    Yields (begun (state_of w.path (order_in w actor) c) actor) (phase_line_of w.path w.path (phase_words w.path (Some tag))) in
    subst S (sym (is ∙ power_chosen w e))
    (yields_due (begun (state_of w.path (order_in w PowerActs) c) PowerActs) w.path.script.sent (id_at w.path tag) (moved w.path) false
    (due_event (state_of w.path (order_in w PowerActs) c) (due_letter w a c PowerActs g e))
    (none_moved w prompt (ap is_some f) e))

pub lost_yields : (w : WorldState) (a : ArrayState) (c : Context) → Agrees w.path a c → IsPrompt w → (actor : Letter) → actor ≡ chosen_of w
    → Yields (begun_next (state_of w.path w.order c) actor) (phase_cut w.path)
lost_yields w a c g prompt actor is =
    let S : State → Type 0 = λ s. Yields s (phase_cut w.path) in
    let P : Option Phase → Type 0 = λ phase. Yields (begun (state_of w.path (order_in w actor) c) actor) (phase_line_of w.path w.path phase) in
    subst S (sym (begun_is w a c g actor))
    (subst P (sym g.tied.begun) (cut_yields w a c g prompt actor (is_cut_due w) refl is (under_way w.path) refl))
