-- What the line of a sector does to the state in which those of the sectors before it are shown.
use Rattle.std.proofs.Common.{◌≡◌, ◌∙◌, ℕ, suc, ◌+◌, ◌<◌, ◌≤◌, true, false, cond, Option, Some, None, is_none, All, List, [], ◌∷◌, ◌++◌, filter, refl, ap, sym, arith}
use Rattle.left_laws.proofs.Lowest.{next_skip, none_at}
use Rattle.left_laws.proofs.Sectors.{put_inside, shown_put, shown_skip, steady}
use Rattle.left_laws.proofs.Values.{Rests, epochs_more, epochs_same, epochs_skip, lefts_put, lefts_same, lefts_skip, made}
use Rattle.left_laws.specs.Laws.{IsLastState}
use Rattle.left_laws.specs.Lines.{OwesLeft, all_shown, epochs_below, has_put, left_line, lefts_below, part_shown, shown_below}
use Rattle.storage_machine.specs.Cuts.{next_left}
use Rattle.storage_machine.specs.declared.state.Event.{Event}
use Rattle.storage_machine.specs.declared.state.Owed.{Owed}
use Rattle.storage_machine.specs.declared.state.Owed.TheVariants.{Left as LeftOwed}
use Rattle.storage_machine.specs.declared.state.State.{State}
use Rattle.storage_model.specs.Contents.{IsWithin, contents_now, sector_at}
use Rattle.storage_model.specs.Left.{mix_at}
use Rattle.storage_model.specs.declared.block.Block.{Block}
use Rattle.storage_model.specs.declared.marks.Mark.{Mark}
use Rattle.trace_effects.specs.Cuts.{all_epochs, epochs_with}
use Rattle.trace_effects.specs.Effects.{after_left, effect, left_mark, left_on}

-- the parts of the state that the lines change
abbrev parts : State → List Mark → List ℕ → Owed → Event → State
parts s lefts epochs owed event = record s { lefts = lefts; epochs = epochs; owed = owed; event = event }

parts_same : (s : State) {lefts lefts' : List Mark} {epochs epochs' : List ℕ} {owed owed' : Owed} {event event' : Event} → lefts ≡ lefts' → epochs ≡ epochs' → owed ≡ owed' → event ≡ event'
    → parts s lefts epochs owed event ≡ parts s lefts' epochs' owed' event'
parts_same s {lefts} {lefts'} {epochs} {epochs'} {owed} {owed'} {event} {event'} l e o v =
    ap (λ x. parts s x epochs owed event) l ∙ (ap (λ x. parts s lefts' x owed event) e ∙ (ap (λ x. parts s lefts' epochs' x event) o ∙ ap (λ x. parts s lefts' epochs' owed' x) v))

filter_all : (xs : List ℕ) → filter (λ x. true) xs ≡ xs
filter_all [] = refl
filter_all (x ∷ xs) = ap (λ ys. x ∷ ys) (filter_all xs)

-- the state at the start
pub part_first : (s : State) (after : List Block) → OwesLeft s → part_shown s after 0 ≡ s
part_first s after owes = parts_same s (sym owes.lefts) (filter_all (all_epochs s.pend) ∙ sym owes.epochs) (sym owes.owed) (sym owes.event)

-- contents that agree on the sectors shown
pub part_same : (s : State) (after other : List Block) (n : ℕ) → ((j : ℕ) → j < n → sector_at other j ≡ sector_at after j) → part_shown s other n ≡ part_shown s after n
part_same s after other n same = parts_same s (lefts_same s.pend after other n same) (epochs_same s.base s.pend after other n same) refl refl

-- a sector without a put is passed
pub part_skip : (s : State) (after : List Block) (n : ℕ) → Rests s.base s.pend after → has_put n s.pend ≡ false → part_shown s after (suc n) ≡ part_shown s after n
part_skip s after n rests off =
    parts_same s (lefts_skip s.pend after n off) (epochs_skip s.base s.pend after n rests off) (ap LeftOwed (shown_skip s.pend n off)) refl

pub part_steady : (s : State) (after : List Block) (n k : ℕ) → Rests s.base s.pend after → n ≤ k → ((j : ℕ) → n ≤ j → j < k → has_put j s.pend ≡ false) → part_shown s after k ≡ part_shown s after n
part_steady s after n k rests above none = steady (part_shown s after) n k above (λ j a b. part_skip s after j rests (none j a b))

-- which of the two states it is

pub shown_some : (s : State) (after : List Block) (n k : ℕ) → next_left s.pend n ≡ Some k → shown_below s after n ≡ part_shown s after n
unfolding shown_below
shown_some s after n k at = ap (λ best. cond (is_none best) (all_shown s after) (part_shown s after n)) at

pub shown_none : (s : State) (after : List Block) (n : ℕ) → IsLastState s after n
unfolding shown_below
shown_none s after n at = ap (λ best. cond (is_none best) (all_shown s after) (part_shown s after n)) at

pub shown_passed : (s : State) (after : List Block) (n : ℕ) → Rests s.base s.pend after → has_put n s.pend ≡ false → shown_below s after (suc n) ≡ shown_below s after n
unfolding shown_below
shown_passed s after n rests off =
    ap (λ best. cond (is_none best) (all_shown s after) (part_shown s after (suc n))) (next_skip s.pend n off)
    ∙ ap (λ part. cond (is_none (next_left s.pend n)) (all_shown s after) part) (part_skip s after n rests off)

-- the line of a sector with a put

-- the state before it is known whether a further line is owed
abbrev with_line : State → List Block → ℕ → State
with_line s after k = record (part_shown s after k) {
  epochs = filter (λ e. mix_at s.base s.pend e k (sector_at after k)) (epochs_below s.base s.pend after k);
  lefts = lefts_below s.pend after k ++ left_mark k (sector_at after k) ∷ [];
}

one_more : (k : ℕ) → k + 1 ≡ suc k
one_more k = omega arith

line_on : (s : State) (after : List Block) (k : ℕ) (best : Option ℕ) → next_left s.pend (suc k) ≡ best → All (IsWithin s.base) s.pend → Rests s.base s.pend after → has_put k s.pend ≡ true
    → left_on (with_line s after k) k best ≡ shown_below s after (suc k)
line_on s after k None at within rests put =
    let inside = put_inside s.base s.pend k within put in
    ap (λ base. all_shown s base) (ap (contents_now s.base) (sym (lefts_put s.pend after k put)) ∙ made s.base s.pend after (suc k) rests (omega arith) (none_at s.pend (suc k) at))
    ∙ sym (shown_none s after (suc k) at)
line_on s after k (Some next) at within rests put =
    parts_same s (sym (lefts_put s.pend after k put)) (epochs_more s.base s.pend after k) (ap LeftOwed (sym (shown_put s.pend k put))) refl
    ∙ sym (shown_some s after (suc k) next at)

pub line_effect : (s : State) (after : List Block) (k : ℕ) → All (IsWithin s.base) s.pend → Rests s.base s.pend after → has_put k s.pend ≡ true → effect (part_shown s after k) (left_line after k) ≡ shown_below s after (suc k)
unfolding effect after_left epochs_with
line_effect s after k within rests put =
    ap (λ n. left_on (with_line s after k) k (next_left s.pend n)) (one_more k) ∙ line_on s after k (next_left s.pend (suc k)) refl within rests put
