-- The lines of contents that may be left are shown, one after the other.
use Rattle.std.proofs.Common.{◌≡◌, ◌∙◌, ◌⊎◌, ℕ, zero, suc, ◌+◌, inl, inr, true, Option, Some, None, List, [], ◌∷◌, ◌++◌, length, take, refl, ap, sym, subst, arith}
use Rattle.std.proofs.lemmas.Bool.{both_ways, cases_Bool, cases_lt}
use Rattle.left_laws.proofs.Effects.{line_effect, part_first, part_steady, shown_none, shown_passed, shown_some}
use Rattle.left_laws.proofs.Lowest.{next_at, next_is, next_none, none_at}
use Rattle.left_laws.proofs.Rules.{line_may, line_so}
use Rattle.left_laws.proofs.Sectors.{map_put, map_skip, none_outside, put_inside}
use Rattle.left_laws.proofs.Values.{Rests}
use Rattle.left_laws.specs.Laws.{AreFirstShown, IsFaultShown, IsFirstState, IsNextSector, IsNextShown, IsNoSector, IsSectorPassed, IsShown, IsShownBelow, IsShownSo}
use Rattle.left_laws.specs.Lines.{CanBeLeft, OwesLeft, all_shown, has_put, left_line, left_lines, lines_below, part_shown, shown_below}
use Rattle.storage_machine.specs.Cuts.{next_left}
use Rattle.storage_machine.specs.declared.state.Owed.TheVariants.{End as Ended}
use Rattle.storage_machine.specs.declared.state.State.{State}
use Rattle.storage_model.specs.declared.block.Block.{Block}
use Rattle.storage_model.specs.declared.marks.Mark.{Mark}
use Rattle.storage_model.specs.declared.trace.End.TheVariants.{Fault as FaultEnd}
use Rattle.storage_model.specs.declared.trace.Item.{Item}
use Rattle.storage_model.specs.declared.trace.Item.TheVariants.{Off}
use Rattle.storage_order.specs.Events.{More}
use Rattle.trace_effects.specs.Effects.{after_off, effect, over}
use Rattle.trace_rules.specs.Lines.{holds, line_rule, off_holds}
use Rattle.trace_rules.specs.Steps.{is_left_so}

pub option_cases : (best : Option ℕ) → (best ≡ None) ⊎ ((k : ℕ) × (best ≡ Some k))
option_cases None = inl refl
option_cases (Some k) = inr (k, refl)

rests_of : (s : State) (after : List Block) → CanBeLeft s.base s.pend after → Rests s.base s.pend after
rests_of s after can = record { size = can.size; rest = can.rest }

-- lists of further lines

pub more_append : (s u t : State) (xs ys : List Item) → More s xs u → More u ys t → More s (xs ++ ys) t
more_append s u t [] ys first second = subst (λ x. More x ys t) first second
more_append s u t (x ∷ xs) ys first second = (first.0, first.1, more_append (effect s x) u t xs ys first.2 second)

pub more_take : (s t : State) (k : ℕ) (xs : List Item) → More s xs t → (u : State) × More s (take k xs) u
more_take s t zero xs more = (s, refl)
more_take s t (suc k) [] more = (s, refl)
more_take s t (suc k) (x ∷ xs) more = let rest = more_take (effect s x) t k xs more.2 in (rest.0, (more.0, more.1, rest.1))

-- one line

line_shown : (s : State) (after : List Block) (k : ℕ) → OwesLeft s → CanBeLeft s.base s.pend after → has_put k s.pend ≡ true → More (part_shown s after k) (left_line after k ∷ []) (shown_below s after (suc k))
line_shown s after k owes can put =
    (refl, record { line = line_may s after k owes.within can put; stands = refl; first = refl }, sym (line_effect s after k owes.within (rests_of s after can) put))

-- where the next sector is k, the state is that at k
at_next : (s : State) (after : List Block) (n k : ℕ) → CanBeLeft s.base s.pend after → next_left s.pend n ≡ Some k → shown_below s after n ≡ part_shown s after k
at_next s after n k can at =
    let next = next_at s.pend n k at in
    shown_some s after n k at ∙ sym (part_steady s after n k (rests_of s after can) next.0 next.2)

shown_after : (s : State) (after : List Block) (k : ℕ) → shown_below s after (k + 1) ≡ shown_below s after (suc k)
shown_after s after k = let to : k + 1 ≡ suc k = omega arith in ap (shown_below s after) to

pub next_shown : (s : State) (after : List Block) (n k : ℕ) → IsNextShown s after n k
next_shown s after n k owes can at =
    let next = next_at s.pend n k at in
    subst (λ t. More (shown_below s after n) (left_line after k ∷ []) t) (sym (shown_after s after k))
    (subst (λ u. More u (left_line after k ∷ []) (shown_below s after (suc k))) (sym (at_next s after n k can at)) (line_shown s after k owes can next.1))

pub sector_passed : (s : State) (after : List Block) (n : ℕ) → IsSectorPassed s after n
sector_passed s after n can off = shown_after s after n ∙ shown_passed s after n (rests_of s after can) off

pub shown_so : (s : State) (after : List Block) (n k : ℕ) → IsShownSo s after n k
shown_so s after n k owes kept at =
    subst (λ u. is_left_so u (left_line after k) ≡ true) (sym (shown_some s after n k at))
    (line_so s after n k (put_inside s.base s.pend k owes.within (next_at s.pend n k at).1) kept)

pub next_sector : (pend : List Mark) (n k : ℕ) → IsNextSector pend n k
next_sector pend n k above put none = next_is pend n k above put none

pub no_sector : (base : List Block) (pend : List Mark) (n : ℕ) → IsNoSector base pend n
no_sector base pend n within none = next_none pend n (λ j above. elim (cases_lt j (length base)) [
  | inl inside ↦ none j above inside
  | inr out ↦ none_outside base pend j within out
])

-- the end in place of a line

fault_by : (s : State) (after : List Block) (n : ℕ) → More (part_shown s after n) (Off FaultEnd ∷ []) (over (part_shown s after n) Ended)
unfolding line_rule holds off_holds effect after_off
fault_by s after n = (refl, record { line = refl; stands = refl; first = refl }, refl)

pub fault_shown : (s : State) (after : List Block) (n k : ℕ) → IsFaultShown s after n k
fault_shown s after n k at = subst (λ u. More u (Off FaultEnd ∷ []) (over u Ended)) (sym (shown_some s after n k at)) (fault_by s after n)

-- all lines

pub first_shown : (s : State) (after : List Block) → IsFirstState s after
first_shown s after owes =
    elim (option_cases (next_left s.pend 0)) [
      | inl none ↦ absurd (both_ways (has_put owes.sector s.pend) (none_at s.pend 0 none owes.sector (omega arith)) owes.put)
      | inr some ↦ shown_some s after 0 some.0 some.1 ∙ part_first s after owes
    ]

pub below_shown : (s : State) (after : List Block) (n : ℕ) → IsShownBelow s after n
below_shown s after zero owes can inside = first_shown s after owes
below_shown s after (suc n) owes can inside =
    let before : More s (lines_below s.pend after n) (shown_below s after n) = below_shown s after n owes can (omega arith) in
    elim (cases_Bool (has_put n s.pend)) [
      | inl put ↦
          let at : next_left s.pend n ≡ Some n = next_is s.pend n n (omega arith) put (λ j a b. absurd (omega arith)) in
          let one : More (shown_below s after n) (left_line after n ∷ []) (shown_below s after (suc n))
          = subst (λ u. More u (left_line after n ∷ []) (shown_below s after (suc n))) (sym (at_next s after n n can at)) (line_shown s after n owes can put) in
          subst (λ lines. More s lines (shown_below s after (suc n))) (sym (map_put (left_line after) s.pend n put))
          (more_append s (shown_below s after n) (shown_below s after (suc n)) (lines_below s.pend after n) (left_line after n ∷ []) before one)
      | inr off ↦
          subst (λ lines. More s lines (shown_below s after (suc n))) (sym (map_skip (left_line after) s.pend n off))
          (subst (λ t. More s (lines_below s.pend after n) t) (sym (shown_passed s after n (rests_of s after can) off)) before)
    ]

pub all_lines : (s : State) (after : List Block) → IsShown s after
all_lines s after owes can =
    let size = can.size in
    let none = next_none s.pend (length after) (λ j above. none_outside s.base s.pend j owes.within (omega arith)) in
    subst (λ t. More s (left_lines s.pend after) t) (shown_none s after (length after) none) (below_shown s after (length after) owes can (omega arith))

pub first_lines : (s : State) (after : List Block) (k : ℕ) → AreFirstShown s after k
first_lines s after k owes can = more_take s (all_shown s after) k (left_lines s.pend after) (all_lines s after owes can)
