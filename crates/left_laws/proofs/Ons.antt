-- The line that the power is on.
use Rattle.std.proofs.Common.{◌≡◌, ◌∙◌, ℕ, inl, inr, true, false, cond, Option, Some, None, is_none, All, List, [], length, refl, ap, sym, subst, arith}
use Rattle.std.proofs.lemmas.Bool.{both_ways}
use Rattle.left_laws.proofs.Lowest.{next_at, next_none, none_at}
use Rattle.left_laws.proofs.Rules.{rule_holds}
use Rattle.left_laws.proofs.Sectors.{map_skip, steady}
use Rattle.left_laws.proofs.Shows.{all_lines, option_cases}
use Rattle.left_laws.proofs.Values.{made}
use Rattle.left_laws.specs.Laws.{IsCalm, IsOnShown, TurnsOn, after_power}
use Rattle.left_laws.specs.Lines.{CanBeLeft, OwesLeft, all_shown, has_put, left_line, left_lines, lines_below}
use Rattle.storage_machine.specs.Cuts.{next_left}
use Rattle.storage_machine.specs.declared.state.Event.TheVariants.{Untold}
use Rattle.storage_machine.specs.declared.state.Owed.{Owed}
use Rattle.storage_machine.specs.declared.state.Owed.TheVariants.{Nothing, Dark}
use Rattle.storage_machine.specs.declared.state.State.{State}
use Rattle.storage_model.proofs.Appends.{contents_now-none}
use Rattle.storage_model.specs.Contents.{IsWithin}
use Rattle.storage_model.specs.declared.block.Block.{Block}
use Rattle.storage_model.specs.declared.trace.Item.TheVariants.{On}
use Rattle.storage_order.specs.Events.{Fits, More, goes_on}
use Rattle.trace_effects.specs.Cuts.{is_deferred}
use Rattle.trace_effects.specs.Effects.{after_on, effect, left_from, powered}
use Rattle.trace_rules.specs.Lines.{holds, line_rule, may_be_on, on_holds}
use Rattle.trace_rules.specs.Steps.{stands_in}

on_is : (s : State) → effect s On ≡ left_from (powered s) (next_left s.pend 0)
unfolding effect after_on
on_is s = refl

base_by : (s : State) (best : Option ℕ) → (left_from (powered s) best).base ≡ s.base
base_by s None = refl
base_by s (Some k) = refl

on_some : (s : State) (k : ℕ) → has_put k s.pend ≡ true → (m : ℕ) × (next_left s.pend 0 ≡ Some m)
on_some s k put =
    elim (option_cases (next_left s.pend 0)) [
      | inl none ↦ absurd (both_ways (has_put k s.pend) (none_at s.pend 0 none k (omega arith)) put)
      | inr some ↦ some
    ]

on_at : (s : State) (best : Option ℕ) → next_left s.pend 0 ≡ best → effect s On ≡ left_from (powered s) best
on_at s best at = on_is s ∙ ap (left_from (powered s)) at

owes_at : (s : State) (m k : ℕ) → has_put k s.pend ≡ true → All (IsWithin s.base) s.pend → OwesLeft (left_from (powered s) (Some m))
owes_at s m k put within = record { owed = refl; event = refl; lefts = refl; epochs = refl; sector = k; put = put; within = within }

calm_at : (s : State) → IsCalm s (left_from (powered s) None)
calm_at s = record { owed = refl; event = refl; base = refl; pend = refl }

same_deferred : (s : State) → is_deferred (powered s) ≡ is_deferred s
same_deferred s = refl

pub turns_on : (s : State) → TurnsOn s
turns_on s = record {
  some = λ k put within. let some = on_some s k put in subst OwesLeft (sym (on_at s (Some some.0) some.1)) (owes_at s some.0 k put within);
  base = ap (λ (x : State). x.base) (on_is s) ∙ base_by s (next_left s.pend 0);
  pend = λ k put. let some = on_some s k put in ap (λ (x : State). x.pend) (on_at s (Some some.0) some.1);
  deferred = λ k put. let some = on_some s k put in ap (λ (x : State). x.deferred) (on_at s (Some some.0) some.1) ∙ same_deferred s;
  none = λ off. subst (IsCalm s) (sym (on_at s None (next_none s.pend 0 (λ j above. off j)))) (calm_at s);
}

-- the line and all lines of what is left

may_is : (s : State) → line_rule s On ≡ None → may_be_on s s.owed ≡ true
unfolding holds on_holds
may_is s line = rule_holds s On line

goes : (s : State) (owed : Owed) → may_be_on s owed ≡ true → goes_on s owed On ≡ true
goes s (Dark cuts) may = refl
goes s owed may = absurd (cc)

on_fits : (s : State) → s.event ≡ Untold → line_rule s On ≡ None → Fits s On
on_fits s event line = record { line = line; stands = ap (λ told. stands_in s told On) event; first = refl }

lines_some : (s : State) (after : List Block) (m k : ℕ) → has_put k s.pend ≡ true → All (IsWithin s.base) s.pend → CanBeLeft s.base s.pend after
    → More (left_from (powered s) (Some m)) (left_lines s.pend after) (all_shown (powered s) after)
lines_some s after m k put within can = all_lines (left_from (powered s) (Some m)) after (owes_at s m k put within) can

no_lines : (s : State) (after : List Block) → ((j : ℕ) → has_put j s.pend ≡ false) → left_lines s.pend after ≡ []
no_lines s after off = steady (lines_below s.pend after) 0 (length after) (omega arith) (λ j a b. map_skip (left_line after) s.pend j (off j))

kept_all : (s : State) (after : List Block) → CanBeLeft s.base s.pend after → ((j : ℕ) → has_put j s.pend ≡ false) → s.base ≡ after
kept_all s after can off =
    sym (contents_now-none s.base) ∙ made s.base s.pend after 0 (record { size = can.size; rest = can.rest }) (omega arith) (λ j above. off j)

abbrev calm_with : State → List Block → State
calm_with s base = record (powered s) { base = base; pend = []; kept = false; owed = Nothing; event = Untold }

lines_none : (s : State) (after : List Block) → CanBeLeft s.base s.pend after → ((j : ℕ) → has_put j s.pend ≡ false) → More (left_from (powered s) None) (left_lines s.pend after) (calm_with s after)
lines_none s after can off =
    subst (λ lines. More (left_from (powered s) None) lines (calm_with s after)) (sym (no_lines s after off)) (ap (calm_with s) (sym (kept_all s after can off)))

power_by : (s : State) (after : List Block) (best : Option ℕ) → next_left s.pend 0 ≡ best → All (IsWithin s.base) s.pend → CanBeLeft s.base s.pend after
    → More (left_from (powered s) best) (left_lines s.pend after) (cond (is_none best) (calm_with s after) (all_shown (powered s) after))
power_by s after None at within can = lines_none s after can (λ j. none_at s.pend 0 at j (omega arith))
power_by s after (Some m) at within can = lines_some s after m m (next_at s.pend 0 m at).1 within can

pub on_shown : (s : State) (after : List Block) → IsOnShown s after
on_shown s after event line within can =
    (goes s s.owed (may_is s line), on_fits s event line, subst (λ u. More u (left_lines s.pend after) (after_power s after)) (sym (on_is s)) (power_by s after (next_left s.pend 0) refl within can))
