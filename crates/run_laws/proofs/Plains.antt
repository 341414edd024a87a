-- Behind the cut of a last flush no event is told, and what is left needn't be as it was.
use Rattle.std.proofs.Common.{◌≡◌, ◌∙◌, ℕ, true, false, Option, Some, None, cond, ◌&&◌, not, length, nat_lt, ◌+◌, slice_get, List, [], ◌∷◌, ◌++◌, refl, ap, sym}
use Rattle.std.proofs.lemmas.Bool.{and_left, and_right}
use Rattle.storage_machine.specs.Cuts.{next_left, shows}
use Rattle.storage_machine.specs.Host.{to_do}
use Rattle.storage_machine.specs.declared.state.Event.TheVariants.{Untold}
use Rattle.storage_machine.specs.declared.state.Owed.{Owed}
use Rattle.storage_machine.specs.declared.state.Owed.TheVariants.{Nothing, Dark, Left as LeftOwed, End as Ended}
use Rattle.storage_machine.specs.declared.state.State.{State}
use Rattle.storage_model.specs.declared.block.Block.{Block}
use Rattle.storage_model.specs.declared.trace.End.{End}
use Rattle.storage_model.specs.declared.trace.Item.{Item}
use Rattle.storage_model.specs.declared.trace.Item.TheVariants.{Cut, Lost, On, Left, Off}
use Rattle.storage_order.specs.Events.{More, goes_on}
use Rattle.run_events.proofs.Finals.{calm_idle}
use Rattle.run_lines.proofs.Cuts.{calm_cut, cut_first}
use Rattle.storage_runs.proofs.Lines.{for_owed}
use Rattle.storage_runs.specs.Runs.{StaysSo}
use Rattle.trace_effects.specs.Cuts.{epochs_with, is_deferred, places_of}
use Rattle.trace_effects.specs.Effects.{after_cut, after_left, after_lost, after_off, after_on, cut_at, effect, first_cut, left_from, left_mark, left_on, powered}
use Rattle.trace_rules.specs.Lines.{is_for, is_free, line_rule, owing}
use Rattle.trace_rules.specs.Steps.{is_left_so}

-- nothing was to do at the cut, so nothing is deferred
abbrev pub IsPlain : State → Owed → Type 0
IsPlain s (Dark cuts) = s.worked ≡ false
IsPlain s (LeftOwed from) = s.deferred ≡ false
IsPlain s Nothing = Unit {0}
IsPlain s Ended = Unit {0}
IsPlain s owed = ⊥

-- the state behind one of the lines
pub record Plain (s : State) : Type 0 where
  pub owed : IsPlain s s.owed
  pub event : s.event ≡ Untold

plain_at : (s t : State) → s ≡ t → Plain t → Plain s
plain_at s t at plain = rw at plain

cut_again : (s : State) (cuts : ℕ) → s.owed ≡ Dark cuts → s.worked ≡ false → Plain (effect s Cut)
unfolding effect after_cut
cut_again s cuts at worked = plain_at (cut_at s s.owed) (cut_at s (Dark cuts)) (ap (cut_at s) at) (record { owed = worked; event = refl })

lost_plain : (s : State) (cuts id : ℕ) → s.owed ≡ Dark cuts → s.worked ≡ false → Plain (effect s (Lost id))
unfolding effect after_lost
lost_plain s cuts id at worked = record { owed = rw at worked; event = refl }

not_deferred : (s : State) → s.worked ≡ false → is_deferred s ≡ false
not_deferred s worked =
    and_right (not s.plan.through) (not s.staged && (not s.kept && (s.worked && nat_lt (length (places_of s.pend)) s.plan.lines)))
    (and_right (not s.staged) (not s.kept && (s.worked && nat_lt (length (places_of s.pend)) s.plan.lines))
    (and_right (not s.kept) (s.worked && nat_lt (length (places_of s.pend)) s.plan.lines) (and_left s.worked (nat_lt (length (places_of s.pend)) s.plan.lines) worked)))

from_plain : (s : State) (next : Option ℕ) → s.worked ≡ false → Plain (left_from s next)
from_plain s None worked = record { owed = tt; event = refl }
from_plain s (Some sector) worked = record { owed = not_deferred s worked; event = refl }

on_plain : (s : State) → s.worked ≡ false → Plain (effect s On)
unfolding effect after_on
on_plain s worked = from_plain (powered s) (next_left s.pend 0) worked

off_plain : (s : State) (end : End) → Plain (effect s (Off end))
unfolding effect after_off
off_plain s end = record { owed = tt; event = refl }

left_plain : (s : State) (sector : ℕ) (next : Option ℕ) → s.deferred ≡ false → Plain (left_on s sector next)
left_plain s sector None so = record { owed = tt; event = refl }
left_plain s sector (Some next) so = record { owed = so; event = refl }

one_left : (s : State) (sector : ℕ) (value : Block) → s.deferred ≡ false → Plain (effect s (Left sector value))
unfolding effect after_left
one_left s sector value so = left_plain (record s { epochs = epochs_with s sector value; lefts = s.lefts ++ left_mark sector value ∷ [] }) sector (next_left s.pend (sector + 1)) so

dark_step : (s : State) (item : Item) (cuts : ℕ) → s.owed ≡ Dark cuts → s.worked ≡ false → is_for (Dark cuts) item ≡ true → (is_left_so s item ≡ true) × Plain (effect s item)
dark_step s Cut cuts at worked for = (refl, cut_again s cuts at worked)
dark_step s (Lost id) cuts at worked for = (refl, lost_plain s cuts id at worked)
dark_step s On cuts at worked for = (refl, on_plain s worked)
dark_step s (Off end) cuts at worked for = (refl, off_plain s end)
dark_step s item cuts at worked for = absurd (cc)

left_step : (s : State) (item : Item) (from : ℕ) → s.deferred ≡ false → is_for (LeftOwed from) item ≡ true → (is_left_so s item ≡ true) × Plain (effect s item)
left_step s (Left sector value) from so for = (ap (λ deferred. cond deferred (shows (slice_get s.base sector) value) true) so, one_left s sector value so)
left_step s (Off end) from so for = (refl, off_plain s end)
left_step s item from so for = absurd (cc)

plain_step : (s : State) (item : Item) (owed : Owed) → s.owed ≡ owed → IsPlain s owed → goes_on s owed item ≡ true → line_rule s item ≡ None → (is_left_so s item ≡ true) × Plain (effect s item)
plain_step s item (Dark cuts) at plain on line = dark_step s item cuts at plain (ap (λ owed. is_for owed item) (sym at) ∙ for_owed s item 10 line (ap owing at))
plain_step s item (LeftOwed from) at plain on line = left_step s item from plain (ap (λ owed. is_for owed item) (sym at) ∙ for_owed s item 10 line (ap owing at))
plain_step s item Nothing at plain on line = absurd (cc)
plain_step s item Ended at plain on line = absurd (cc)
plain_step s item owed at plain on line = absurd plain

-- all of them
pub record AllPlain (s last : State) (items : List Item) : Type 0 where
  pub so : StaysSo s items
  pub event : last.event ≡ Untold

pub more_plain : (s last : State) (items : List Item) → Plain s → More s items last → AllPlain s last items
more_plain s last [] plain go = record { so = tt; event = ap (λ x. x.event) go ∙ plain.event }
more_plain s last (item ∷ items) plain go =
    let step = plain_step s item s.owed refl plain.owed go.0 go.1.line in
    let rest = more_plain (effect s item) last items step.1 go.2 in
    record { so = (step.0, rest.so); event = rest.event }

-- the first cut
pub cut_plain : (s : State) → is_free s.owed ≡ true → to_do s ≡ false → Plain (effect s Cut)
cut_plain s free none = plain_at (effect s Cut) (first_cut s) (cut_first s free) (record { owed = ap to_do (calm_cut s (calm_idle s none)) ∙ none; event = refl })
