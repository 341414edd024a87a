-- The lines of an event that a letter told are taken.
use Rattle.std.proofs.Common.{◌≡◌, ◌∙◌, ◌≤◌, ℕ, Bool, true, false, cond, List, ◌∷◌, refl, ap}
use Rattle.storage_machine.specs.Cuts.{is_due}
use Rattle.storage_machine.specs.Host.{to_do}
use Rattle.storage_machine.specs.declared.state.Event.TheVariants.{Told}
use Rattle.storage_machine.specs.declared.state.State.{State}
use Rattle.storage_model.specs.declared.faults.Letter.{Letter}
use Rattle.storage_model.specs.declared.faults.Letter.TheVariants.{Host, Engine, Card, Cut as PowerActs}
use Rattle.storage_model.specs.declared.trace.Item.{Item}
use Rattle.storage_order.specs.Events.{Lasts}
use Rattle.storage_order.specs.Order.{is_of_next}
use Rattle.run_events.proofs.CardLast.{card_taken}
use Rattle.storage_runs.proofs.Ends.{lasts_taken}
use Rattle.storage_runs.proofs.Plans.{begun_plan, ended_plan}
use Rattle.storage_runs.proofs.Told.{IsBegun, begun_facts, phase_uncut, told_first, untold_told}
use Rattle.storage_runs.specs.Laws.{Closes, rested}
use Rattle.storage_runs.specs.Runs.{StaysSo, Yields, begun_next, is_shown, with_letter}
use Rattle.trace_effects.specs.Effects.{begun, letters_used}

-- a line of the told event that is of no other
own_line : (b t : State) (item : Item) (items : List Item) (actor : Letter) → IsBegun b actor → Lasts b item items t → Yields b (item ∷ items) → StaysSo b (item ∷ items) → 1 ≤ b.plan.depth
    → is_of_next b actor item ≡ false → Closes b t (item ∷ items)
own_line b t item items actor begins lasts yields so depth own =
    lasts_taken b b t item items lasts so (told_first b actor item begins lasts.begins.told lasts.begins.first yields so.0 own) depth

card_line : (b t : State) (item : Item) (items : List Item) (next : Bool) → is_of_next b Card item ≡ next → to_do b ≡ true → IsBegun b Card → Lasts b item items t → Yields b (item ∷ items) → StaysSo b (item ∷ items)
    → 1 ≤ b.plan.depth → Closes b t (item ∷ items)
card_line b t item items false own some begins lasts yields so depth = own_line b t item items Card begins lasts yields so depth own
card_line b t item items true next some begins lasts yields so depth = card_taken b t item items next some begins lasts yields so depth

pub told_line : (b t : State) (item : Item) (items : List Item) (actor : Letter) → (actor ≡ Card → to_do b ≡ true) → IsBegun b actor → Lasts b item items t → Yields b (item ∷ items) → StaysSo b (item ∷ items)
    → 1 ≤ b.plan.depth → Closes b t (item ∷ items)
told_line b t item items Host some begins lasts yields so depth = own_line b t item items Host begins lasts yields so depth refl
told_line b t item items Engine some begins lasts yields so depth =
    own_line b t item items Engine begins lasts yields so depth (phase_uncut b Engine item (untold_told b (Told Engine) begins.event lasts.begins.told) yields)
told_line b t item items Card some begins lasts yields so depth = card_line b t item items (is_of_next b Card item) refl (some refl) begins lasts yields so depth
told_line b t item items PowerActs some begins lasts yields so depth = own_line b t item items PowerActs begins lasts yields so depth refl

card_to_do : (s : State) (letters : ℕ) → to_do s ≡ true → to_do (begun (record s { letters = letters }) Card) ≡ true
unfolding to_do begun
card_to_do s letters some = some

pub some_of_card : (s : State) (actor : Letter) → is_shown s actor ≡ true → to_do s ≡ true → actor ≡ Card → to_do (begun_next s actor) ≡ true
some_of_card s actor is some card = rw (is, card) (card_to_do s (letters_used s) some)

letters_plan : (s : State) (is : Bool) → (cond is (record s { letters = letters_used s }) s).plan ≡ s.plan
letters_plan s true = refl
letters_plan s false = refl

shown_plan : (s : State) (actor : Letter) → (with_letter s actor).plan ≡ s.plan
shown_plan s actor = letters_plan s (is_shown s actor)

pub rested_depth : (m : State) (actor : Letter) → 1 ≤ m.plan.depth → 1 ≤ (begun_next (rested m) actor).plan.depth
rested_depth m actor depth =
    rw (ap (λ plan. plan.depth) (begun_plan (with_letter (rested m) actor) actor ∙ (shown_plan (rested m) actor ∙ ended_plan m))) depth

pub begun_shown : (r : State) (actor : Letter) → is_shown r actor ≡ true → is_due r ≡ false → IsBegun (begun_next r actor) actor
begun_shown r actor is due = rw is (begun_facts r (letters_used r) actor due)
