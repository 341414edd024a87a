-- The line of a letter is taken, and the event that it shows has begun.
use Rattle.std.proofs.Common.{◌≡◌, ◌∙◌, Bool, true, false, Some, None, cond, ◌&&◌, ◌||◌, not, List, ◌∷◌, refl, ap, sym}
use Rattle.std.proofs.lemmas.Bool.{lt-ltb}
use Rattle.std.proofs.lemmas.Option.{slice_get_within}
use Rattle.storage_machine.specs.Commands.{is_calm}
use Rattle.storage_machine.specs.Cuts.{due_line, is_due}
use Rattle.storage_machine.specs.Host.{recovery_steps, to_do}
use Rattle.storage_machine.specs.declared.state.Event.{Event}
use Rattle.storage_machine.specs.declared.state.Event.TheVariants.{Untold, Told, Due}
use Rattle.storage_machine.specs.declared.state.Owed.{Owed}
use Rattle.storage_machine.specs.declared.state.Owed.TheVariants.{Card as CardOwed, Nothing, Closed, Bus as BusOwed, Flash as FlashOwed, Answers, Sectors, Recover as RecoverOwed, Dark, Left as LeftOwed, End as Ended}
use Rattle.storage_machine.specs.declared.state.State.{State}
use Rattle.storage_model.specs.declared.faults.Letter.{Letter}
use Rattle.storage_model.specs.declared.faults.Letter.TheVariants.{Host, Engine, Card, Cut as PowerActs}
use Rattle.storage_model.specs.declared.trace.Item.{Item}
use Rattle.storage_model.specs.declared.trace.Item.TheVariants.{Turn}
use Rattle.storage_order.specs.Accept.{accept_from}
use Rattle.storage_order.specs.Events.{closed, end_rule, ended, ended_by, is_untold, rule_of_end}
use Rattle.storage_order.specs.Order.{entered, engine_first, forced, is_of_next, left_behind, order_rule, settled, start_rule, starts, starts_at, with_due}
use Rattle.storage_runs.proofs.Hushes.{engine_kept, rests}
use Rattle.storage_runs.proofs.Lines.{event_none, one_taken}
use Rattle.storage_runs.proofs.Mores.{no_step, start_none}
use Rattle.storage_runs.specs.Laws.{StandsAt, rested}
use Rattle.storage_runs.specs.Runs.{begun_next, is_shown, next_letter}
use Rattle.trace_effects.specs.Effects.{after_turn, effect, letters_left}
use Rattle.trace_rules.specs.Lines.{holds, is_free, line_rule, same_letter, turn_holds}
use Rattle.trace_rules.specs.Steps.{event_rule, is_cut, is_line_of, is_nothing, lower}

pub or_false : (b : Bool) → (b || false) ≡ true → b ≡ true
or_false true e = refl
or_false false e = absurd (cc)

-- a line that isn't of the told event begins one
starts_event : (m : State) (event : Event) (item : Item) → (is_nothing m.owed || is_untold event) ≡ true → rule_of_end m event ≡ None
    → ((letter : Letter) → event ≡ Told letter → (is_line_of letter (is_calm m.recovery) item && not (is_of_next m letter item)) ≡ false) → starts_at m event item ≡ true
starts_event m Untold item whole end other = refl
starts_event m Due item whole end other = absurd (cc)
starts_event m (Told letter) item whole end other = rw (or_false (is_nothing m.owed) whole, other letter refl) refl

pub starts_free : (m : State) (item : Item) → is_free m.owed ≡ true → (is_nothing m.owed || is_untold m.event) ≡ true → end_rule m ≡ None
    → ((letter : Letter) → m.event ≡ Told letter → (is_line_of letter (is_calm m.recovery) item && not (is_of_next m letter item)) ≡ false) → starts m item ≡ true
unfolding starts end_rule
starts_free m item free whole end other = rw (free, starts_event m m.event item whole end other) refl

closed_free : (owed : Owed) → is_free owed ≡ true → closed owed ≡ Nothing
closed_free Nothing free = refl
closed_free Closed free = refl
closed_free CardOwed free = absurd (cc)
closed_free (BusOwed n id kind) free = absurd (cc)
closed_free (FlashOwed id) free = absurd (cc)
closed_free Answers free = absurd (cc)
closed_free (Sectors tag k) free = absurd (cc)
closed_free RecoverOwed free = absurd (cc)
closed_free (Dark cuts) free = absurd (cc)
closed_free (LeftOwed from) free = absurd (cc)
closed_free Ended free = absurd (cc)

ended_owed_by : (m : State) (event : Event) → (ended_by m event).owed ≡ m.owed
ended_owed_by m Untold = refl
ended_owed_by m Due = refl
ended_owed_by m (Told Host) = refl
ended_owed_by m (Told Engine) = (engine_kept (record m { event = Untold })).owed
ended_owed_by m (Told Card) = refl
ended_owed_by m (Told PowerActs) = refl

pub ended_owed : (m : State) → (ended m).owed ≡ m.owed
unfolding ended
ended_owed m = ended_owed_by m m.event

-- a line that isn't a cut leaves a complete phase behind
pub behind_rested : (m : State) (item : Item) → is_cut item ≡ false → is_free m.owed ≡ true → left_behind (ended m) item ≡ rested m
behind_rested m item cut free = rw cut (ap (λ owed. record (ended m) { owed = owed }) (ap closed (ended_owed m) ∙ closed_free m.owed free))

pub due_owed : (s : State) (owed : Owed) → is_due (record s { owed = owed }) ≡ is_due s
unfolding to_do due_line
due_owed s owed = refl

pub left_letter : (s : State) (letter : Letter) → next_letter s ≡ Some letter → letters_left s ≡ true
left_letter s letter at = lt-ltb _ _ (slice_get_within s.faults.turns s.letters letter at)

turn_forced : (s : State) (letter : Letter) → next_letter s ≡ Some letter → forced s (Turn letter) ≡ s
unfolding forced
turn_forced s letter at =
    ap (λ left. with_due (cond (left || (is_due s && false)) s (engine_first (recovery_steps s) (Turn letter))) (Turn letter)) (left_letter s letter at)
    ∙ no_step (is_due s) s (record s { event = Due })

turn_entered : (m : State) (letter : Letter) → is_free m.owed ≡ true → next_letter (rested m) ≡ Some letter → entered m (Turn letter) ≡ rested m
turn_entered m letter free at = ap (λ x. forced x (Turn letter)) (behind_rested m (Turn letter) refl free) ∙ turn_forced (rested m) letter at

turn_line : (letter other : Letter) (m : State) → is_line_of letter (is_calm m.recovery) (Turn other) ≡ false
turn_line Host other m = refl
turn_line Engine other m = refl
turn_line Card other m = refl
turn_line PowerActs other m = refl

turn_starts : (m s : State) (letter : Letter) → StandsAt m s → starts m (Turn letter) ≡ true
turn_starts m s letter st = starts_free m (Turn letter) st.free st.whole st.ends (λ told e. rw (turn_line told letter m) refl)

turn_settled : (m s : State) (letter : Letter) → StandsAt m s → next_letter (rested m) ≡ Some letter → settled m (Turn letter) ≡ rested m
unfolding settled
turn_settled m s letter st at = rw (turn_starts m s letter st) (turn_entered m letter st.free at)

-- nothing but the letter's event may come there
turn_order : (m s : State) (letter : Letter) → StandsAt m s → next_letter (rested m) ≡ Some letter → is_due (rested m) ≡ false → order_rule m (Turn letter) ≡ None
unfolding order_rule
turn_order m s letter st at due =
    rw (turn_starts m s letter st)
    (ap (λ rule. lower rule (start_rule (is_due (ended m)) (entered m (Turn letter)) (Turn letter))) st.ends
    ∙ (ap (λ late. start_rule late (entered m (Turn letter)) (Turn letter)) (sym (due_owed (ended m) Nothing) ∙ due)
    ∙ (ap (λ x. start_rule false x (Turn letter)) (turn_entered m letter st.free at) ∙ start_none (rested m) (Turn letter) false refl refl)))

same_is : (letter : Letter) → same_letter letter letter ≡ true
same_is Host = refl
same_is Engine = refl
same_is Card = refl
same_is PowerActs = refl

turn_holding : (r : State) (letter : Letter) → r.owed ≡ Nothing → next_letter r ≡ Some letter → holds r (Turn letter) ≡ true
unfolding holds turn_holds
turn_holding r letter owed at = rw (owed, at) (same_is letter)

turn_rule : (r : State) (letter : Letter) → r.owed ≡ Nothing → next_letter r ≡ Some letter → line_rule r (Turn letter) ≡ None
unfolding line_rule
turn_rule r letter owed at = rw (turn_holding r letter owed at, owed) refl

turn_event : (r : State) (letter : Letter) → r.event ≡ Untold → event_rule r (Turn letter) ≡ None
turn_event r letter e = event_none r (Turn letter) (rw e refl) refl refl refl

turn_effect : (r : State) (letter : Letter) → is_shown r letter ≡ true → effect r (Turn letter) ≡ begun_next r letter
unfolding effect after_turn
turn_effect r letter shown = rw shown refl

-- the letter's line is taken, and its event has begun
pub turn_taken : (m s : State) (letter : Letter) → StandsAt m s → next_letter (rested m) ≡ Some letter → is_due (rested m) ≡ false → is_shown (rested m) letter ≡ true
    → (more : List Item) → accept_from (Turn letter ∷ more) m ≡ accept_from more (begun_next (rested m) letter)
turn_taken m s letter st at due shown more =
    let r = rested m in
    let rest = rests m in
    one_taken m r (Turn letter) (turn_settled m s letter st at) (turn_order m s letter st at due) (turn_rule r letter rest.owed at) (turn_event r letter rest.event) more
    ∙ ap (accept_from more) (turn_effect r letter shown)
