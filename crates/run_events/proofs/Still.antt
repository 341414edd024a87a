-- An event that was told printed nothing more than its letter, and the acceptance hasn't seen its end: the next event, that no letter tells, is taken still.
use Rattle.std.proofs.Common.{inl, inr, ◌≡◌, ◌∙◌, ◌⊎◌, ◌≤◌, ℕ, Bool, true, false, Option, Some, None, cond, ◌&&◌, ◌||◌, not, refl, ap, sym}
use Rattle.std.proofs.lemmas.Bool.{false≢true, and_parts, or_from}
use Rattle.storage_machine.specs.Commands.{is_calm}
use Rattle.storage_machine.specs.Cuts.{is_due}
use Rattle.storage_machine.specs.Host.{has_work, to_do}
use Rattle.storage_machine.specs.declared.state.Event.{Event}
use Rattle.storage_machine.specs.declared.state.Event.TheVariants.{Untold, Told, Due}
use Rattle.storage_machine.specs.declared.state.Owed.TheVariants.{Nothing}
use Rattle.storage_machine.specs.declared.state.State.{State}
use Rattle.storage_model.specs.declared.faults.Letter.{Letter}
use Rattle.storage_model.specs.declared.faults.Letter.TheVariants.{Card, Engine, Host, Cut as PowerActs}
use Rattle.storage_model.specs.declared.trace.Item.{Item}
use Rattle.storage_model.specs.declared.trace.Item.TheVariants.{Phase, Cut}
use Rattle.storage_order.specs.Events.{end_rule, ended, ended_by, rule_of_end}
use Rattle.storage_order.specs.Order.{is_of_next, starts, starts_at}
use Rattle.run_events.proofs.CardLast.{plain_unsaid, rested_card, unsaid, work_event}
use Rattle.run_lines.proofs.Cuts.{cut_first, cut_rule, plain_tick, plain_told, plainly_cut, told_cut}
use Rattle.storage_runs.proofs.Ends.{First}
use Rattle.storage_runs.proofs.Hushes.{IsKept, Rests}
use Rattle.run_lines.proofs.Hosts.{no_letters}
use Rattle.storage_runs.proofs.Lags.{IsBusied, Onward, Reached, calm_work, not_false, recovery_engine}
use Rattle.storage_runs.proofs.Lines.{event_none, order_same, settled_same}
use Rattle.storage_runs.proofs.Plans.{ended_plan}
use Rattle.storage_runs.proofs.Told.{due_event}
use Rattle.storage_runs.specs.Laws.{rested}
use Rattle.storage_runs.specs.Runs.{next_letter}
use Rattle.run_events.proofs.Idles.{engine_onward, late_onward}
use Rattle.trace_effects.specs.Effects.{letters_left}
use Rattle.trace_rules.specs.Lines.{is_free}
use Rattle.trace_rules.specs.Steps.{is_line_of, is_nothing, stands_in}

-- the acceptor m, to which this letter was told, and the state s of the run
pub record Still (m s : State) (letter : Letter) : Type 0 where
  pub owed : m.owed ≡ Nothing
  pub event : m.event ≡ Told letter
  pub end : end_rule m ≡ None
  pub late : is_due m ≡ false
  pub depth : 1 ≤ m.plan.depth
  pub some : to_do s ≡ true
  pub rest : Rests s
  pub kept : IsKept (rested m) s
  pub on : Reached (rested m) s
  pub letters : (s ≡ rested m) ⊎ (next_letter (rested m) ≡ None)

-- the line is one of the told event, in the eyes of the acceptance
abbrev pub IsItsLine : State → Letter → Item → Type 0
IsItsLine m letter item = (is_line_of letter (is_calm m.recovery) item && not (is_of_next m letter item)) ≡ true

not_begun : (nothing own : Bool) → nothing ≡ true → (true && not (not nothing || own)) ≡ false → own ≡ true
not_begun true own a b = not_false own b
not_begun false own a b = absurd (cc)

pub its_line : (m s : State) (letter : Letter) (item : Item) → Still m s letter → starts m item ≡ false → IsItsLine m letter item
unfolding starts
its_line m s letter item x inside =
    not_begun (is_nothing m.owed) (is_line_of letter (is_calm m.recovery) item && not (is_of_next m letter item)) (ap is_nothing x.owed)
    (sym (ap (λ free. free && starts_at m (Told letter) item) (ap is_free x.owed)) ∙ (sym (ap (λ event. is_free m.owed && starts_at m event item) x.event) ∙ inside))

pub not_busy : (busy : Bool) → not (busy && true) ≡ true → busy ≡ true → false ≡ true
not_busy true a b = a
not_busy false a b = b

-- where no phase is under way, only counted completions came between
pub plain_onward : (r s : State) → Onward r s → (s.busy ≡ true → false ≡ true) → plainly_cut r ≡ plainly_cut s
plain_onward r s (inl x) free = sym (ap (λ y. plainly_cut y) x)
plain_onward r s (inr (inl x)) free = sym (ap (λ y. plainly_cut y) x.state ∙ plain_tick r)
plain_onward r s (inr (inr x)) free = absurd (false≢true (free (ap (λ y. y.busy) x.state)))

pub still_depth : (m s : State) (letter : Letter) → Still m s letter → 1 ≤ (rested m).plan.depth
still_depth m s letter x = rw (ap (λ plan. plan.depth) (ended_plan m)) x.depth

pub still_onward : (m s : State) (letter : Letter) → Still m s letter → has_work s ≡ false → Onward (rested m) s
still_onward m s letter x work = engine_onward (rested m) s x.on work x.some (still_depth m s letter x)

worked_onward : (r s : State) → Onward r s → has_work s ≡ false → has_work r ≡ false
worked_onward r s (inl x) work = sym (ap has_work x) ∙ work
worked_onward r s (inr (inl x)) work = x.work
worked_onward r s (inr (inr x)) work = x.work

-- no recovery is under way where the host has no work
recovery_event : (m : State) (event : Event) → (ended_by m event).recovery ≡ m.recovery
recovery_event m Untold = refl
recovery_event m Due = refl
recovery_event m (Told Host) = refl
recovery_event m (Told Engine) = recovery_engine (record m { event = Untold })
recovery_event m (Told Card) = refl
recovery_event m (Told PowerActs) = refl

pub recovery_rested : (m : State) → (rested m).recovery ≡ m.recovery
unfolding ended
recovery_rested m = recovery_event m m.event

still_calm : (m s : State) (letter : Letter) → Still m s letter → has_work s ≡ false → is_calm m.recovery ≡ true
still_calm m s letter x work = sym (ap is_calm (recovery_rested m)) ∙ calm_work (rested m) (worked_onward (rested m) s (still_onward m s letter x work) work)

-- the engine's cut is taken as the told event's
pub told_cut_first : (m s : State) (letter : Letter) → Still m s letter → has_work s ≡ false → starts m Cut ≡ false → stands_in m m.event Cut ≡ true → plainly_cut m ≡ plainly_cut s → First m (record s { event = Told Engine }) Cut
told_cut_first m s letter x work inside stands same = record {
  at = m;
  settled = settled_same m Cut inside;
  order = order_same m Cut inside;
  line = cut_rule m (ap is_free x.owed);
  event = event_none m Cut stands refl refl refl;
  effect =
      cut_first m (ap is_free x.owed)
      ∙ (told_cut m letter x.event (still_calm m s letter x work)
      ∙ (same ∙ (sym (plain_told s (calm_work s work)) ∙ sym (cut_first (record s { event = Told Engine }) (ap is_free x.rest.owed)))));
}

-- the card's event
card_rest : (m s : State) → Still m s Card → rested m ≡ unsaid m
card_rest m s x = rested_card m x.event x.owed

card_stands : (m : State) → m.owed ≡ Nothing → m.event ≡ Told Card → stands_in m m.event Cut ≡ true
card_stands m owed e = ap (λ event. stands_in m event Cut) e ∙ ap (λ owed. cond (is_nothing owed) (true && true) true) owed

pub card_cut : (m s : State) → Still m s Card → has_work s ≡ false → (s.busy ≡ true → false ≡ true) → starts m Cut ≡ false → First m (record s { event = Told Engine }) Cut
card_cut m s x work free inside =
    told_cut_first m s Card x work inside (card_stands m x.owed x.event)
    (sym (plain_unsaid m) ∙ (ap (λ y. plainly_cut y) (sym (card_rest m s x)) ∙ plain_onward (rested m) s (still_onward m s Card x work) free))

card_worked : (m s : State) → Still m s Card → has_work (rested m) ≡ false → has_work m ≡ false
card_worked m s x work = sym (work_event m Untold) ∙ (ap has_work (sym (card_rest m s x)) ∙ work)

letters_unsaid : (m : State) → letters_left (unsaid m) ≡ letters_left m
letters_unsaid m = refl

card_letters : (m s : State) → Still m s Card → next_letter (rested m) ≡ None → letters_left m ≡ false
card_letters m s x none = sym (letters_unsaid m) ∙ (ap letters_left (sym (card_rest m s x)) ∙ no_letters (rested m) none)

-- a phase isn't taken as the card's where no letter is left and the host has no work
card_other : (m s : State) (n id count : ℕ) (kept : Bool) → Still m s Card → next_letter (rested m) ≡ None → has_work (rested m) ≡ false → IsItsLine m Card (Phase n id count kept) → false ≡ true
card_other m s n id count kept x none work its =
    sym (ap not (ap not (or_from (letters_left m) (has_work m) (card_letters m s x none) (card_worked m s x work)))) ∙ (and_parts true (not (not (letters_left m || has_work m))) its).1

pub card_phase : (m s : State) (n id count : ℕ) (kept : Bool) → Still m s Card → next_letter (rested m) ≡ None → has_work s ≡ false → IsItsLine m Card (Phase n id count kept) → false ≡ true
card_phase m s n id count kept x none work its = card_other m s n id count kept x none (worked_onward (rested m) s (still_onward m s Card x work) work) its

-- where a cut is due behind it, a phase began
card_late : (m s : State) → Still m s Card → is_due s ≡ true → (s ≡ rested m) ⊎ IsBusied (rested m) s → IsBusied (rested m) s
card_late m s x late (inl same) = absurd (false≢true (sym x.late ∙ (sym (due_event m Untold) ∙ (ap is_due (sym (same ∙ card_rest m s x)) ∙ late))))
card_late m s x late (inr phase) = phase

pub card_busied : (m s : State) → Still m s Card → is_due s ≡ true → IsBusied (rested m) s
card_busied m s x late = card_late m s x late (late_onward (rested m) s x.on late (still_depth m s Card x))

none_left : (m s : State) → Still m s Card → is_due s ≡ true → (s ≡ rested m) ⊎ (next_letter (rested m) ≡ None) → next_letter (rested m) ≡ None
none_left m s x late (inl same) = absurd (false≢true (sym x.late ∙ (sym (due_event m Untold) ∙ (ap is_due (sym (same ∙ card_rest m s x)) ∙ late))))
none_left m s x late (inr none) = none

pub card_due : (m s : State) (n id count : ℕ) (kept : Bool) → Still m s Card → is_due s ≡ true → IsItsLine m Card (Phase n id count kept) → false ≡ true
card_due m s n id count kept x late its = card_other m s n id count kept x (none_left m s x late x.letters) (card_busied m s x late).work its

-- the letter that was told is the engine's or the card's
pub host_told : (m : State) → end_rule m ≡ None → m.event ≡ Told Host → false ≡ true
unfolding end_rule
host_told m end e = absurd (cc (rw e at end))

none_to_do : (some : Bool) → cond {A = Option ℕ} (not some) None (Some 12) ≡ None → some ≡ true → false ≡ true
none_to_do true end e = absurd (cc)
none_to_do false end e = e

pub power_told : (m : State) → end_rule m ≡ None → m.event ≡ Told PowerActs → to_do m ≡ true → false ≡ true
unfolding end_rule
power_told m end e some = none_to_do (to_do m) (sym (ap (rule_of_end m) e) ∙ end) some
