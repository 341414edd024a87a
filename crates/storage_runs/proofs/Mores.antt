-- The further lines of an event are taken.
use Rattle.std.proofs.Common.{◌≡◌, ◌∙◌, ℕ, Bool, true, false, Option, Some, None, cond, ◌&&◌, ◌||◌, not, List, [], ◌∷◌, ◌++◌, refl, ap, sym}
use Rattle.std.proofs.lemmas.Bool.{and_parts}
use Rattle.storage_machine.specs.Commands.{is_calm}
use Rattle.storage_machine.specs.Cuts.{is_due}
use Rattle.storage_machine.specs.Host.{has_work, recovery_steps, recovery_steps_at, to_do}
use Rattle.storage_machine.specs.declared.state.Event.{Event}
use Rattle.storage_machine.specs.declared.state.Event.TheVariants.{Untold, Told, Due}
use Rattle.storage_machine.specs.declared.state.Owed.{Owed}
use Rattle.storage_machine.specs.declared.state.Owed.TheVariants.{Card as CardOwed, Nothing, Closed, Bus as BusOwed, Flash as FlashOwed, Answers, Sectors, Recover as RecoverOwed, Dark, Left as LeftOwed, End as Ended}
use Rattle.storage_machine.specs.declared.state.Recovery.{Recovery}
use Rattle.storage_machine.specs.declared.state.Recovery.TheVariants.{Calm, Halted, Cleared, Discarded, Cleaned, Resumed}
use Rattle.storage_machine.specs.declared.state.State.{State}
use Rattle.storage_model.specs.declared.trace.Item.{Item}
use Rattle.storage_model.specs.declared.trace.Item.TheVariants.{Card, Issue, Params, Address, Poll, Phase, Discard, Bus, Flash, Recover, Irq, Done, Read, Sector, Status, Fault, Refused, Cut, Lost, On, Left, Turn, Off}
use Rattle.storage_order.specs.Accept.{accept_from}
use Rattle.storage_order.specs.Events.{More, end_rule, ended, ended_by, engine_step, goes_on, is_untold, rule_of_end}
use Rattle.storage_order.specs.Order.{entered, forced, is_next, next_actor, order_rule, settled, start_rule, starts, starts_at, untold_steps, with_due}
use Rattle.storage_runs.proofs.Lines.{event_none, for_owed, one_taken, order_same, owed_stays, settled_same, yields_owed}
use Rattle.storage_runs.specs.Runs.{StaysSo}
use Rattle.trace_effects.specs.Effects.{effect, letters_left}
use Rattle.trace_rules.specs.Lines.{is_free, line_rule, owing}
use Rattle.trace_rules.specs.Steps.{is_cut, is_due_event, is_line_of, is_nothing, lower, unless, yields_to_cut}

-- the acceptance judges the line in this very state
pub record Stands (s : State) (item : Item) : Type 0 where
  pub settled : settled s item ≡ s
  pub order : order_rule s item ≡ None
  pub yields : yields_to_cut s item ≡ true

pub stays : (s : State) (item : Item) → starts s item ≡ false → yields_to_cut s item ≡ true → Stands s item
stays s item first yields = record { settled = settled_same s item first; order = order_same s item first; yields = yields }

-- a line is owed
owed_stands : (s : State) (item : Item) (x : ℕ) → line_rule s item ≡ None → owing s.owed ≡ Some x → is_free s.owed ≡ false → Stands s item
owed_stands s item x line owes free = stays s item (owed_stays s item free) (yields_owed s item (for_owed s item x line owes) free)

-- a told event isn't over behind a complete phase
starts_told : (s : State) (event : Event) (item : Item) → s.owed ≡ Closed → is_untold event ≡ false → starts_at s event item ≡ false
starts_told s Untold item owed told = absurd (cc)
starts_told s Due item owed told = refl
starts_told s (Told letter) item owed told = rw owed refl

told_stays : (s : State) (item : Item) → s.owed ≡ Closed → is_untold s.event ≡ false → starts s item ≡ false
unfolding starts
told_stays s item owed told = rw (starts_told s s.event item owed told, owed) refl

-- where no event is told, and neither is a cut due nor a recovery under way, nothing comes between a complete phase and its cut
steps_none : (s : State) (recovery : Recovery) → is_calm recovery ≡ true → recovery_steps_at s recovery ≡ s
steps_none s Calm calm = refl
steps_none s Halted calm = absurd (cc)
steps_none s Cleared calm = absurd (cc)
steps_none s Discarded calm = absurd (cc)
steps_none s Cleaned calm = absurd (cc)
steps_none s Resumed calm = absurd (cc)

pub calm_steps : (s : State) → is_calm s.recovery ≡ true → recovery_steps s ≡ s
unfolding recovery_steps
calm_steps s calm = steps_none s s.recovery calm

pub either_same : (b : Bool) (s t u : State) → s ≡ u → t ≡ u → cond b s t ≡ u
either_same true s t u left right = left
either_same false s t u left right = right

pub no_step : (b : Bool) (s t : State) → cond (b && false) t s ≡ s
no_step true s t = refl
no_step false s t = refl

pub or_true : (b : Bool) → (b || true) ≡ true
or_true true = refl
or_true false = refl

pub is_untold_event : (event : Event) → is_untold event ≡ true → event ≡ Untold
is_untold_event Untold e = refl
is_untold_event Due e = absurd (cc)
is_untold_event (Told letter) e = absurd (cc)

pub ended_untold : (s : State) → s.event ≡ Untold → ended s ≡ s
unfolding ended
ended_untold s e = ap (ended_by s) e ∙ ap (λ x. record s { event = x }) (sym e)

pub end_untold : (s : State) → s.event ≡ Untold → end_rule s ≡ None
unfolding end_rule
end_untold s e = ap (rule_of_end s) e

-- no event that prints nothing comes before a cut
steps_cut : (s : State) → is_calm s.recovery ≡ true → untold_steps s Cut ≡ s
steps_cut s calm = either_same _ s _ s refl (no_step (not (has_work (recovery_steps s))) (recovery_steps s) (engine_step (recovery_steps s)) ∙ calm_steps s calm)

due_cut : (s : State) → is_due s ≡ false → with_due s Cut ≡ s
due_cut s due = rw due refl

entered_cut : (s : State) → s.event ≡ Untold → is_calm s.recovery ≡ true → is_due s ≡ false → entered s Cut ≡ s
unfolding forced
entered_cut s e calm due = ap (λ x. with_due (untold_steps x Cut) Cut) (ended_untold s e) ∙ (ap (λ x. with_due x Cut) (steps_cut s calm) ∙ due_cut s due)

settled_cut : (s : State) → s.event ≡ Untold → is_calm s.recovery ≡ true → is_due s ≡ false → settled s Cut ≡ s
unfolding settled
settled_cut s e calm due = either_same (starts s Cut) _ s s (entered_cut s e calm due) refl

next_by : (some nothing rest : Bool) → nothing ≡ false → (not some || ((not nothing && true) || rest)) ≡ true
next_by true true rest e = absurd (cc)
next_by true false rest e = refl
next_by false nothing rest e = refl

next_cut : (s : State) → s.owed ≡ Closed → is_next s Cut ≡ true
next_cut s owed = next_by (to_do s) (is_nothing s.owed) (not (letters_left s) && is_line_of (next_actor s) (is_calm s.recovery) Cut) (ap is_nothing owed)

pub start_by : (told next late : Bool) → next ≡ true → late ≡ false → cond {A = Option ℕ} told None (lower (unless next 12) (unless (not late) 15)) ≡ None
start_by true next late comes due = refl
start_by false true false comes due = refl
start_by false false late comes due = absurd (cc)
start_by false true true comes due = absurd (cc)

-- the line may begin the event
pub start_none : (s : State) (item : Item) (late : Bool) → is_next s item ≡ true → late ≡ false → start_rule late s item ≡ None
start_none s item late comes due = start_by (is_due_event s.event) (is_next s item) late comes due

none_either : (b : Bool) (rule : Option ℕ) → rule ≡ None → cond b rule None ≡ None
none_either true rule e = e
none_either false rule e = refl

order_cut : (s : State) → s.event ≡ Untold → s.owed ≡ Closed → is_calm s.recovery ≡ true → is_due s ≡ false → order_rule s Cut ≡ None
unfolding order_rule
order_cut s e owed calm due = none_either (starts s Cut) _
    (ap (λ rule. lower rule (start_rule (is_due (ended s)) (entered s Cut) Cut)) (end_untold s e)
    ∙ (ap (λ x. start_rule (is_due x) (entered s Cut) Cut) (ended_untold s e)
    ∙ (ap (λ x. start_rule (is_due s) x Cut) (entered_cut s e calm due)
    ∙ (ap (λ due. start_rule due s Cut) due ∙ start_none s Cut false (next_cut s owed) refl))))

pub not_true : (b : Bool) → not b ≡ true → b ≡ false
not_true true e = absurd (cc)
not_true false e = refl

own_cut : (s : State) (untold : Bool) → is_untold s.event ≡ untold → s.owed ≡ Closed → (not untold || (is_calm s.recovery && not (is_due s))) ≡ true → Stands s Cut
own_cut s false at owed own = stays s Cut (told_stays s Cut owed at) refl
own_cut s true at owed own =
    let e = is_untold_event s.event at in
    let parts = and_parts _ _ own in
    let due = not_true _ (parts.1) in
    record { settled = settled_cut s e parts.0 due; order = order_cut s e owed parts.0 due; yields = refl }

pub cut_is : (item : Item) → is_cut item ≡ true → item ≡ Cut
cut_is (Card sectors depth lines) e = absurd (cc)
cut_is (Issue id tag) e = absurd (cc)
cut_is (Params n id) e = absurd (cc)
cut_is (Address n id) e = absurd (cc)
cut_is (Poll n mask) e = absurd (cc)
cut_is (Phase n id count kept) e = absurd (cc)
cut_is (Discard n) e = absurd (cc)
cut_is (Bus n kind id) e = absurd (cc)
cut_is (Flash id) e = absurd (cc)
cut_is Recover e = absurd (cc)
cut_is (Irq mask) e = absurd (cc)
cut_is (Done id) e = absurd (cc)
cut_is (Read id) e = absurd (cc)
cut_is (Sector value) e = absurd (cc)
cut_is (Status id word) e = absurd (cc)
cut_is (Fault id why) e = absurd (cc)
cut_is (Refused id why) e = absurd (cc)
cut_is Cut e = refl
cut_is (Lost id) e = absurd (cc)
cut_is On e = absurd (cc)
cut_is (Left sector value) e = absurd (cc)
cut_is (Turn letter) e = absurd (cc)
cut_is (Off end) e = absurd (cc)

closed_stands : (s : State) (item : Item) → s.owed ≡ Closed → goes_on s Closed item ≡ true → Stands s item
closed_stands s item owed on =
    let parts = and_parts _ _ on in
    rw (cut_is item parts.0) (own_cut s (is_untold s.event) refl owed parts.1)

-- a further line of an event is judged where it stands
step_stands : (s : State) (owed : Owed) (item : Item) → s.owed ≡ owed → goes_on s owed item ≡ true → line_rule s item ≡ None → Stands s item
step_stands s CardOwed item at on line = owed_stands s item 1 line (ap owing at) (ap is_free at)
step_stands s Nothing item at on line = absurd (cc)
step_stands s Closed item at on line = closed_stands s item at on
step_stands s (BusOwed n id kind) item at on line = owed_stands s item 5 line (ap owing at) (ap is_free at)
step_stands s (FlashOwed id) item at on line = owed_stands s item 5 line (ap owing at) (ap is_free at)
step_stands s Answers item at on line = owed_stands s item 8 line (ap owing at) (ap is_free at)
step_stands s (Sectors tag k) item at on line = owed_stands s item 8 line (ap owing at) (ap is_free at)
step_stands s RecoverOwed item at on line = owed_stands s item 9 line (ap owing at) (ap is_free at)
step_stands s (Dark cuts) item at on line = owed_stands s item 10 line (ap owing at) (ap is_free at)
step_stands s (LeftOwed from) item at on line = owed_stands s item 10 line (ap owing at) (ap is_free at)
step_stands s Ended item at on line = absurd (cc)

-- the further lines of an event are taken
pub more_taken : (s t : State) (items : List Item) → More s items t → StaysSo s items → (more : List Item) → accept_from (items ++ more) s ≡ accept_from more t
more_taken s t [] go so more = ap (accept_from more) (sym go)
more_taken s t (item ∷ items) go so more =
    let fits = go.1 in
    let stands = step_stands s s.owed item refl go.0 fits.line in
    one_taken s s item stands.settled stands.order fits.line (event_none s item fits.stands fits.first stands.yields so.0) (items ++ more)
    ∙ more_taken (effect s item) t items go.2 so.1 more
