-- Further cuts, and the end or the line that the power is on behind them.
use Rattle.std.proofs.Common.{◌≡◌, ◌∙◌, ℕ, zero, suc, ◌+◌, ◌<◌, ◌≤◌, ◌++◌, ◌⊎◌, is_none, inl, inr, Bool, true, false, Some, None, min, List, [], ◌∷◌, length, refl, ap, sym, subst, arith}
use Rattle.std.proofs.lemmas.Bool.{le-leb, lt-ltb}
use Rattle.left_laws.proofs.Lowest.{next_at, next_is, none_at}
use Rattle.left_laws.proofs.Effects.{shown_none, shown_some}
use Rattle.left_laws.proofs.Ons.{on_shown, turns_on}
use Rattle.left_laws.proofs.Sectors.{map_skip, steady}
use Rattle.left_laws.proofs.Shows.{below_shown, fault_shown, more_append, option_cases}
use Rattle.left_laws.specs.Laws.{after_power}
use Rattle.left_laws.specs.Lines.{CanBeLeft, OwesLeft, has_put, left_line, lines_below, shown_below}
use Rattle.storage_machine.specs.Cuts.{next_left}
use Rattle.storage_machine.specs.Slots.{has, no_tasks}
use Rattle.storage_machine.specs.declared.slots.Question.TheVariants.{Issued as IsIssued}
use Rattle.storage_machine.specs.declared.state.Event.TheVariants.{Untold}
use Rattle.storage_machine.specs.declared.state.Owed.TheVariants.{Dark, End as Ended}
use Rattle.storage_machine.specs.declared.state.State.{State}
use Rattle.storage_model.specs.declared.block.Block.{Block}
use Rattle.storage_model.specs.declared.trace.End.{End}
use Rattle.storage_model.specs.declared.trace.End.TheVariants.{Good, Fault, Dead, Image}
use Rattle.storage_model.specs.declared.trace.Item.TheVariants.{Cut, Off, On}
use Rattle.storage_order.specs.Events.{Fits, More}
use Rattle.trace_effects.specs.Effects.{after_cut, after_off, effect, over}
use Rattle.trace_rules.specs.Lines.{cut_holds, holds, line_rule, off_holds, on_holds}
use Rattle.trace_rules.specs.Steps.{stands_in}
use Rattle.cut_laws.specs.Laws.{AreCutsShown, AreGone, IsEndShown, IsPartShown, IsPowerShown, IsUnreadShown, LeadsNear, MayBeShown, dark, further_cuts, may_end}

none_issued : has IsIssued no_tasks ≡ false
unfolding no_tasks
none_issued = refl

gone_issued : (s : State) → AreGone s → has IsIssued s.slots ≡ false
gone_issued s gone = ap (has IsIssued) gone.slots ∙ none_issued

-- one more cut

cut_may : (s : State) (cuts : ℕ) → AreGone s → cuts < 8 → line_rule (dark s cuts) Cut ≡ None
unfolding line_rule holds cut_holds
cut_may s cuts gone few = rw (gone_issued s gone, lt-ltb cuts 8 few) refl

cut_effect : (s : State) (cuts : ℕ) → AreGone s → cuts < 8 → effect (dark s cuts) Cut ≡ dark s (suc cuts)
unfolding effect after_cut
cut_effect s cuts gone few =
    let next : min (cuts + 1) 8 ≡ suc cuts = omega (arith, few) in
    ap (λ n. record s { owed = Dark n; event = Untold }) next ∙ ap (λ told. record s { owed = Dark (suc cuts); event = told }) (sym gone.event)

cut_fits : (s : State) (cuts : ℕ) → AreGone s → cuts < 8 → Fits (dark s cuts) Cut
cut_fits s cuts gone few = record { line = cut_may s cuts gone few; stands = ap (λ told. stands_in (dark s cuts) told Cut) gone.event; first = refl }

cuts_from : (s : State) (cuts n : ℕ) → AreGone s → cuts + n ≤ 8 → More (dark s cuts) (further_cuts n) (dark s (cuts + n))
cuts_from s cuts zero gone few = let same : cuts + 0 ≡ cuts = omega arith in ap (dark s) same
cuts_from s cuts (suc n) gone few =
    let same : suc cuts + n ≡ cuts + suc n = omega arith in
    let rest : More (dark s (suc cuts)) (further_cuts n) (dark s (cuts + suc n)) = subst (λ m. More (dark s (suc cuts)) (further_cuts n) (dark s m)) same (cuts_from s (suc cuts) n gone (omega (arith, few))) in
    (refl, cut_fits s cuts gone (omega (arith, few)), subst (λ u. More u (further_cuts n) (dark s (cuts + suc n))) (sym (cut_effect s cuts gone (omega (arith, few)))) rest)

pub cuts_shown : (s : State) (cuts : ℕ) → AreCutsShown s cuts
cuts_shown s cuts gone few =
    let same : 0 + cuts ≡ cuts = omega arith in
    subst (λ n. More (dark s 0) (further_cuts cuts) (dark s n)) same (cuts_from s 0 cuts gone (omega (arith, few)))

-- the end

end_may : (s : State) (cuts : ℕ) (end : End) → AreGone s → may_end cuts end ≡ true → line_rule (dark s cuts) (Off end) ≡ None
unfolding line_rule holds off_holds
end_may s cuts Good gone may = absurd (cc)
end_may s cuts Fault gone may = rw (gone_issued s gone, may) refl
end_may s cuts Dead gone may = rw (gone_issued s gone, may) refl
end_may s cuts Image gone may = rw (gone_issued s gone, may) refl

end_effect : (s : State) (cuts : ℕ) (end : End) → may_end cuts end ≡ true → over (dark s cuts) Ended ≡ effect (dark s cuts) (Off end)
unfolding effect after_off
end_effect s cuts Good may = absurd (cc)
end_effect s cuts Fault may = refl
end_effect s cuts Dead may = refl
end_effect s cuts Image may = refl

pub end_shown : (s : State) (cuts : ℕ) (end : End) → IsEndShown s cuts end
end_shown s cuts end gone may =
    (refl, record { line = end_may s cuts end gone may; stands = ap (λ told. stands_in (dark s cuts) told (Off end)) gone.event; first = refl }, end_effect s cuts end may)

-- the power is on

on_may : (s : State) (cuts : ℕ) → AreGone s → cuts ≤ 7 → line_rule (dark s cuts) On ≡ None
unfolding line_rule holds on_holds
on_may s cuts gone few = rw (gone_issued s gone, le-leb cuts 7 few) refl

on_fits : (s : State) (cuts : ℕ) → AreGone s → cuts ≤ 7 → Fits (dark s cuts) On
on_fits s cuts gone few = record { line = on_may s cuts gone few; stands = ap (λ told. stands_in (dark s cuts) told On) gone.event; first = refl }

pub power_shown : (s : State) (cuts : ℕ) (after : List Block) → IsPowerShown s cuts after
power_shown s cuts after may = on_shown (dark s cuts) after may.gone.event (on_may s cuts may.gone may.few) may.within may.can

power_base : (s : State) (after : List Block) (b : Bool) → is_none (next_left s.pend 0) ≡ b → (after_power s after).base ≡ after
power_base s after true is = rw is refl
power_base s after false is = rw is refl

-- the state behind the line is near

module _ (s : State) (cuts : ℕ) (after : List Block) (may : MayBeShown s cuts after) where
  abbrev on : State
  on = effect (dark s cuts) On

  base_on : on.base ≡ s.base
  base_on = (turns_on (dark s cuts)).base

  owes : (k : ℕ) → has_put k s.pend ≡ true → OwesLeft on
  owes k put = (turns_on (dark s cuts)).some k put may.within

  pend_on : (k : ℕ) → has_put k s.pend ≡ true → on.pend ≡ s.pend
  pend_on k put = (turns_on (dark s cuts)).pend k put

  can_on : (k : ℕ) → has_put k s.pend ≡ true → CanBeLeft on.base on.pend after
  can_on k put = subst (λ base. CanBeLeft base on.pend after) (sym base_on) (subst (λ pend. CanBeLeft s.base pend after) (sym (pend_on k put)) may.can)

  near_below : (k n : ℕ) → has_put k s.pend ≡ true → (((shown_below on after n).base ≡ s.base) × ((shown_below on after n).pend ≡ s.pend)) ⊎ (((shown_below on after n).base ≡ after) × ((shown_below on after n).pend ≡ []))
  near_below k n put = elim (option_cases (next_left on.pend n)) [
    | inl none ↦ let is = shown_none on after n none in inr (ap (λ (u : State). u.base) is, ap (λ (u : State). u.pend) is)
    | inr some ↦ let is = shown_some on after n some.0 some.1 in inl (ap (λ (u : State). u.base) is ∙ base_on, ap (λ (u : State). u.pend) is ∙ pend_on k put)
  ]

  some_below : (k n : ℕ) → has_put k s.pend ≡ true → n ≤ length after → LeadsNear (dark s cuts) (On ∷ lines_below s.pend after n) after
  some_below k n put few = record {
    last = shown_below on after n;
    more = (refl, on_fits s cuts may.gone may.few, subst (λ pend. More on (lines_below pend after n) (shown_below on after n)) (pend_on k put) (below_shown on after n (owes k put) (can_on k put) few));
    near = near_below k n put;
  }

  no_lines : ((j : ℕ) → has_put j s.pend ≡ false) → (n : ℕ) → lines_below s.pend after n ≡ []
  no_lines off n = steady (lines_below s.pend after) 0 n (omega arith) (λ j a b. map_skip (left_line after) s.pend j (off j))

  none_on : ((j : ℕ) → has_put j s.pend ≡ false) → after_power s after ≡ on
  none_on off = subst (λ lines. More on lines (after_power s after)) (no_lines off (length after)) (power_shown s cuts after may).2

  none_base : ((j : ℕ) → has_put j s.pend ≡ false) → on.base ≡ after
  none_base off = ap (λ (u : State). u.base) (sym (none_on off)) ∙ power_base s after (is_none (next_left s.pend 0)) refl

  none_shown : ((j : ℕ) → has_put j s.pend ≡ false) → (n : ℕ) → LeadsNear (dark s cuts) (On ∷ lines_below s.pend after n) after
  none_shown off n = record {
    last = on;
    more = (refl, on_fits s cuts may.gone may.few, subst (λ lines. More on lines on) (sym (no_lines off n)) refl);
    near = inr (none_base off, ((turns_on (dark s cuts)).none off).pend);
  }

  unread : (n : ℕ) → n < length after → has_put n s.pend ≡ true → LeadsNear (dark s cuts) (On ∷ (lines_below s.pend after n ++ Off Fault ∷ [])) after
  unread n few put =
      let at : next_left on.pend n ≡ Some n = ap (λ pend. next_left pend n) (pend_on n put) ∙ next_is s.pend n n (omega arith) put (λ j a b. absurd (omega (arith, a, b))) in
      let lines = subst (λ pend. More on (lines_below pend after n) (shown_below on after n)) (pend_on n put) (below_shown on after n (owes n put) (can_on n put) (omega (arith, few))) in
      record {
        last = over (shown_below on after n) Ended;
        more = (refl, on_fits s cuts may.gone may.few, more_append on (shown_below on after n) (over (shown_below on after n) Ended) (lines_below s.pend after n) (Off Fault ∷ []) lines (fault_shown on after n n at));
        near = near_below n n put;
      }

pub part_shown : (s : State) (cuts : ℕ) (after : List Block) (n : ℕ) → IsPartShown s cuts after n
part_shown s cuts after n may few = elim (option_cases (next_left s.pend 0)) [
  | inl none ↦ none_shown s cuts after may (λ j. none_at s.pend 0 none j (omega arith)) n
  | inr some ↦ some_below s cuts after may some.0 n (next_at s.pend 0 some.0 some.1).1 few
]

pub unread_shown : (s : State) (cuts : ℕ) (after : List Block) (n : ℕ) → IsUnreadShown s cuts after n
unread_shown s cuts after n may few put = unread s cuts after may n few put
