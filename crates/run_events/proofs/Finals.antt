-- The line that ends a run is taken.
use Rattle.std.proofs.Common.{inl, inr, ◌≡◌, ◌∙◌, ◌⊎◌, ℕ, Bool, true, false, None, cond, ◌&&◌, ◌||◌, not, is_some, refl, ap, sym}
use Rattle.std.proofs.lemmas.Bool.{false≢true, and_left, or_parts}
use Rattle.std.specs.List.{list_any}
use Rattle.storage_machine.specs.Commands.{is_calm}
use Rattle.storage_machine.specs.Cuts.{due_line, is_due}
use Rattle.storage_machine.specs.Host.{has_work, recovery_steps, to_do}
use Rattle.storage_machine.specs.Slots.{has}
use Rattle.storage_machine.specs.declared.slots.Question.TheVariants.{Issued}
use Rattle.storage_machine.specs.declared.state.Event.TheVariants.{Due}
use Rattle.storage_machine.specs.declared.state.Owed.TheVariants.{Nothing}
use Rattle.storage_machine.specs.declared.state.State.{State}
use Rattle.storage_model.specs.declared.faults.Letter.{Letter}
use Rattle.storage_model.specs.declared.faults.Letter.TheVariants.{Host, Engine, Card, Cut as PowerActs}
use Rattle.storage_model.specs.declared.trace.End.{End}
use Rattle.storage_model.specs.declared.trace.Item.TheVariants.{Off}
use Rattle.storage_order.specs.Accept.{accept_from}
use Rattle.storage_order.specs.Events.{ended, engine_step}
use Rattle.trace_effects.specs.Effects.{letters_left}
use Rattle.storage_order.specs.Order.{engine_first, forced, is_of_next, starts, untold_steps, with_due}
use Rattle.storage_runs.proofs.Ends.{First}
use Rattle.run_lines.proofs.Engines.{enters_first}
use Rattle.run_lines.proofs.Hosts.{no_letters}
use Rattle.storage_runs.proofs.Hushes.{rests, rests_kept, unseen_kept}
use Rattle.storage_runs.proofs.Lags.{Reached, unseen_late, unseen_letters, unseen_reached}
use Rattle.storage_runs.proofs.Lines.{event_none, one_taken}
use Rattle.storage_runs.proofs.Mores.{calm_steps, no_step, start_none}
use Rattle.storage_runs.proofs.Turns.{behind_rested, due_owed, starts_free}
use Rattle.run_events.specs.Laws.{IsEndTaken}
use Rattle.storage_runs.specs.Laws.{StandsAt, rested}
use Rattle.storage_runs.specs.Runs.{next_letter}
use Rattle.trace_rules.specs.Lines.{line_rule}
use Rattle.trace_rules.specs.Steps.{is_line_of, stands_in}

off_line : (letter : Letter) (calm : Bool) (end : End) → is_line_of letter calm (Off end) ≡ false
off_line Host calm end = refl
off_line Engine calm end = refl
off_line Card calm end = refl
off_line PowerActs calm end = refl

off_starts : (m s : State) (end : End) → StandsAt m s → starts m (Off end) ≡ true
off_starts m s end st =
    starts_free m (Off end) st.free st.whole st.ends (λ letter e. and_left (is_line_of letter (is_calm m.recovery) (Off end)) (not (is_of_next m letter (Off end))) (off_line letter (is_calm m.recovery) end))

calm_not : (calm : Bool) → not calm ≡ false → calm ≡ true
calm_not true e = refl
calm_not false e = absurd (cc)

pub calm_idle : (s : State) → to_do s ≡ false → is_calm s.recovery ≡ true
unfolding to_do
calm_idle s none = calm_not (is_calm s.recovery) (or_parts (has Issued s.slots) (not (is_calm s.recovery)) (or_parts (list_any (λ waits. waits) s.waiting) (has Issued s.slots || not (is_calm s.recovery)) none).1).1

some_tick : (q : State) → to_do (record q { notice = true; count = 0 }) ≡ to_do q
unfolding to_do
some_tick q = refl

some_busy : (q : State) (spent : ℕ) → to_do (record q { busy = true; spent = spent }) ≡ to_do q
unfolding to_do
some_busy q spent = refl

pub reached_end : (r s : State) → Reached r s → to_do s ≡ false → recovery_steps r ≡ s
reached_end r s (inl x) none = sym x.steps ∙ calm_steps s (calm_idle s none)
reached_end r s (inr (inl x)) none = absurd (false≢true (sym none ∙ (ap to_do x.state ∙ (some_tick (recovery_steps r) ∙ x.some))))
reached_end r s (inr (inr x)) none = absurd (false≢true (sym none ∙ (ap to_do x.state ∙ (some_busy (recovery_steps r) x.spent ∙ x.some))))

off_due : (x : State) (end : End) → with_due x (Off end) ≡ x
off_due x end = no_step (is_due x) x (record x { event = Due })

off_steps : (r s : State) (end : End) (left : Bool) → letters_left r ≡ left → (left ≡ true → s ≡ r) → recovery_steps r ≡ s → untold_steps r (Off end) ≡ s
off_steps r s end true at same steps = ap (λ left. cond (left || (is_due r && false)) r (engine_first (recovery_steps r) (Off end))) at ∙ sym (same refl)
off_steps r s end false at same steps =
    ap (λ left. cond (left || (is_due r && false)) r (engine_first (recovery_steps r) (Off end))) at
    ∙ (no_step (is_due r) (engine_first (recovery_steps r) (Off end)) r
    ∙ (no_step (not (has_work (recovery_steps r))) (recovery_steps r) (engine_step (recovery_steps r)) ∙ steps))

off_forced : (r s : State) (end : End) (left : Bool) → letters_left r ≡ left → (left ≡ true → s ≡ r) → recovery_steps r ≡ s → forced r (Off end) ≡ s
unfolding forced
off_forced r s end left at same steps = off_due (untold_steps r (Off end)) end ∙ off_steps r s end left at same steps

pub letters_same : (r s : State) → (s ≡ r) ⊎ (next_letter r ≡ None) → letters_left r ≡ true → s ≡ r
letters_same r s (inl same) left = same
letters_same r s (inr none) left = absurd (false≢true (sym (no_letters r none) ∙ left))

pub not_late : (r s : State) (late : Bool) → is_due r ≡ late → (is_due r ≡ true → s ≡ r) → to_do s ≡ false → is_due r ≡ false
not_late r s false at same none = at
not_late r s true at same none = absurd (false≢true (sym (and_left (to_do s) (is_some (due_line s)) none) ∙ (ap is_due (same at) ∙ at)))

-- the end's line is taken
end_first : (m s : State) (end : End) → StandsAt m s → to_do s ≡ false → line_rule s (Off end) ≡ None → First m s (Off end)
end_first m s end st none line =
    let r = rested m in
    let kept = unseen_kept st.count r s (rests m) st.unseen in
    let rest = rests_kept r s (rests m) kept in
    let steps = reached_end r s (unseen_reached st.count r s (rests m) st.unseen) none in
    let late = not_late r s (is_due r) refl (unseen_late st.count r s (rests m) st.unseen) none in
    enters_first m s s (Off end) (off_starts m s end st) st.ends (record {
      entered = ap (λ x. forced x (Off end)) (behind_rested m (Off end) refl st.free) ∙ off_forced r s end (letters_left r) refl (letters_same r s (unseen_letters st.count r s (rests m) st.unseen)) steps;
      order = start_none s (Off end) (is_due (ended m)) refl (sym (due_owed (ended m) Nothing) ∙ late);
      line = line;
      event = event_none s (Off end) (ap (λ event. stands_in s event (Off end)) rest.event) refl refl refl;
      effect = refl;
    })

pub end_taken : (m s : State) (end : End) → IsEndTaken m s end
end_taken m s end st none line more =
    let first = end_first m s end st none line in
    one_taken m first.at (Off end) first.settled first.order first.line first.event more ∙ ap (accept_from more) first.effect
