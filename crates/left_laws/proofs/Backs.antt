-- Lines that stand, each by its own rule, show contents that may be left.
use Rattle.std.proofs.Common.{◌≡◌, ◌∙◌, ℕ, suc, ◌≤◌, ◌<◌, ◌==◌, inl, inr, true, false, None, All, List, [], ◌∷◌, ◌++◌, length, refl, ap, sym, subst, slice_set, arith, append_assoc}
use Rattle.std.proofs.Math.ListN.{length-set}
use Rattle.std.proofs.lemmas.Bool.{cases_lt, eq-eqb, both_ways, ne_eqb}
use Rattle.std.proofs.lemmas.List.{append-nil}
use Rattle.std.proofs.lemmas.List.Elements.{All-head, All-tail}
use Rattle.left_laws.proofs.Effects.{line_effect, part_first, part_same, part_steady, shown_none, shown_some}
use Rattle.left_laws.proofs.Lowest.{none_at}
use Rattle.left_laws.proofs.Rests.{mixes_skip, rest_mixes}
use Rattle.left_laws.proofs.Rules.{Says, line_says, says}
use Rattle.left_laws.proofs.Sectors.{map_put, map_skip, steady}
use Rattle.left_laws.proofs.Shows.{option_cases}
use Rattle.left_laws.proofs.Values.{Rests, lines_same}
use Rattle.left_laws.specs.Laws.{IsLeftShown, ShowsLeft, Steps, is_left_line}
use Rattle.left_laws.specs.Lines.{CanBeLeft, all_shown, has_put, is_mix_below, left_line, left_lines, lines_below, part_shown, shown_below, shown_to}
use Rattle.storage_machine.specs.Cuts.{next_left}
use Rattle.storage_machine.specs.declared.state.Owed.TheVariants.{Nothing, Left as LeftOwed}
use Rattle.storage_machine.specs.declared.state.State.{State}
use Rattle.storage_model.proofs.Applied.{sector_put_other, sector_put_same}
use Rattle.storage_model.proofs.Below.{every_below_at, every_below_from}
use Rattle.storage_model.proofs.Cuts.{is_left-from}
use Rattle.storage_model.specs.Contents.{IsWithin, bars, sector_at}
use Rattle.storage_model.specs.Left.{mix_at}
use Rattle.storage_model.specs.declared.block.Block.{Block}
use Rattle.storage_model.specs.declared.marks.Put.{Put}
use Rattle.storage_model.specs.declared.marks.Mark.{Mark}
use Rattle.storage_model.specs.declared.trace.Item.{Item}
use Rattle.storage_model.specs.declared.trace.Item.TheVariants.{Left}
use Rattle.trace_effects.specs.Effects.{effect}
use Rattle.trace_rules.specs.Lines.{line_rule}

-- contents that hold the values shown so far, and an epoch that allows these
record Holds (s : State) (after : List Block) (n : ℕ) : Type 0 where
  pub rests : Rests s.base s.pend after
  pub epoch : ℕ
  pub within : epoch ≤ bars s.pend
  pub mixes : is_mix_below s.base s.pend after n epoch ≡ true

-- the lines are all of them
record Ends (s : State) (lines : List Item) (t : State) : Type 0 where
  pub after : List Block
  pub holds : Holds s after (length s.base)
  pub shown : lines ≡ left_lines s.pend after
  pub state : t ≡ all_shown s after

-- with one more value

abbrev with_value : List Block → ℕ → Block → List Block
with_value after k value = slice_set after k value

abbrev put_of : ℕ → Block → Put
put_of k value = record { sector = k; value = value; reliable = false }

value_other : (after : List Block) (k : ℕ) (value : Block) (j : ℕ) → (k == j) ≡ false → sector_at (with_value after k value) j ≡ sector_at after j
value_other after k value j other = sector_put_other after (put_of k value) j other

value_same : (after : List Block) (k : ℕ) (value : Block) → k < length after → sector_at (with_value after k value) k ≡ value
value_same after k value inside = sector_put_same after (put_of k value) k inside (eq-eqb k k refl)

value_below : (after : List Block) (k : ℕ) (value : Block) (n j : ℕ) → n ≤ k → j < n → sector_at (with_value after k value) j ≡ sector_at after j
value_below after k value n j above below = value_other after k value j (ne_eqb k j (omega arith))

apart : (pend : List Mark) (k j : ℕ) → has_put k pend ≡ true → has_put j pend ≡ false → (k == j) ≡ false
apart pend k j put off = ne_eqb k j (λ same. both_ways (has_put j pend) off (ap (λ i. has_put i pend) (sym same) ∙ put))

rests_with : (s : State) (after : List Block) (k : ℕ) (value : Block) → Rests s.base s.pend after → has_put k s.pend ≡ true → Rests s.base s.pend (with_value after k value)
rests_with s after k value rests put = record {
  size = length-set after k value ∙ rests.size;
  rest = λ j off. value_other after k value j (apart s.pend k j put off) ∙ rests.rest j off;
}

mix_with : (s : State) (after : List Block) (n k : ℕ) (value : Block) (j : ℕ) (rests : Rests s.base s.pend after) (said : Says s after n k value) → j < suc k → mix_at s.base s.pend said.epoch j (sector_at (with_value after k value) j) ≡ true
mix_with s after n k value j rests said below =
    let above = said.above in
    let size = rests.size in
    let inside = said.inside in
    elim (cases_lt j n) [
      | inl shown ↦
          ap (mix_at s.base s.pend said.epoch j) (value_below after k value n j above shown)
          ∙ every_below_at n (λ i. mix_at s.base s.pend said.epoch i (sector_at after i)) j said.before shown
      | inr behind ↦ elim (cases_lt j k) [
        | inl gap ↦ rest_mixes s.base s.pend said.epoch j (sector_at (with_value after k value) j) (said.gap j behind gap) ((rests_with s after k value rests said.put).rest j (said.gap j behind gap))
        | inr last ↦
            let is : j ≡ k = omega arith in
            ap (λ i. mix_at s.base s.pend said.epoch i (sector_at (with_value after k value) i)) is
            ∙ (ap (mix_at s.base s.pend said.epoch k) (value_same after k value (omega arith)) ∙ said.mixes)
      ]
    ]

holds_with : (s : State) (after : List Block) (n k : ℕ) (value : Block) → Rests s.base s.pend after → Says s after n k value → Holds s (with_value after k value) (suc k)
holds_with s after n k value rests said = record {
  rests = rests_with s after k value rests said.put;
  epoch = said.epoch;
  within = said.within;
  mixes = every_below_from (suc k) (λ j. mix_at s.base s.pend said.epoch j (sector_at (with_value after k value) j)) (λ j below. mix_with s after n k value j rests said below);
}

-- the lines grow by that of the value
lines_with : (s : State) (after : List Block) (n k : ℕ) (value : Block) → Rests s.base s.pend after → Says s after n k value
    → lines_below s.pend (with_value after k value) (suc k) ≡ lines_below s.pend after n ++ Left k value ∷ []
lines_with s after n k value rests said =
    let size = rests.size in
    let inside = said.inside in
    let other = with_value after k value in
    map_put (left_line other) s.pend k said.put
    ∙ (ap (λ lines. lines ++ left_line other k ∷ [])
    (steady (lines_below s.pend other) n k said.above (λ j a b. map_skip (left_line other) s.pend j (said.gap j a b)) ∙ lines_same s.pend after other n (λ j below. value_below after k value n j said.above below))
    ∙ ap (λ v. lines_below s.pend after n ++ Left k v ∷ []) (value_same after k value (omega arith)))

-- and the state follows
effect_with : (s : State) (after : List Block) (n k : ℕ) (value : Block) → All (IsWithin s.base) s.pend → Rests s.base s.pend after → Says s after n k value
    → effect (part_shown s after n) (Left k value) ≡ shown_below s (with_value after k value) (suc k)
effect_with s after n k value within rests said =
    let size = rests.size in
    let inside = said.inside in
    let other = with_value after k value in
    let rests' = rests_with s after k value rests said.put in
    let from : part_shown s after n ≡ part_shown s other k
    = sym (part_same s after other n (λ j below. value_below after k value n j said.above below)) ∙ sym (part_steady s other n k rests' said.above said.gap) in
    ap (λ u. effect u (Left k value)) from
    ∙ (ap (λ v. effect (part_shown s other k) (Left k v)) (sym (value_same after k value (omega arith))) ∙ line_effect s other k within rests' said.put)

-- each line is one of what is left

record Shown (item : Item) : Type 0 where
  pub sector : ℕ
  pub value : Block
  pub is : item ≡ Left sector value

left_is : (item : Item) → is_left_line item ≡ true → Shown item
left_is (Left sector value) e = record { sector = sector; value = value; is = refl }
left_is item e = absurd (cc)

-- no further line stands behind the last

record Stops (s : State) (after : List Block) (lines : List Item) (t : State) : Type 0 where
  pub none : lines ≡ []
  pub state : t ≡ all_shown s after

unowed : (s : State) (after : List Block) (item : Item) → is_left_line item ≡ true → line_rule (all_shown s after) item ≡ None → ⊥
unowed s after item left line =
    let shown = left_is item left in
    let may = line_says (all_shown s after) shown.sector shown.value (ap (line_rule (all_shown s after)) (sym shown.is) ∙ line) in
    absurd (cc)

stops : (s : State) (after : List Block) (t : State) (lines : List Item) → All (λ item. is_left_line item ≡ true) lines → Steps (all_shown s after) lines t → Stops s after lines t
stops s after t [] all steps = record { none = refl; state = steps }
stops s after t (item ∷ lines) all steps = absurd (unowed s after item (All-head (λ item. is_left_line item ≡ true) item lines all) steps.0)

ends_at : (s : State) (after : List Block) (k : ℕ) → Holds s after (suc k) → k < length s.base → next_left s.pend (suc k) ≡ None → Ends s (lines_below s.pend after (suc k)) (all_shown s after)
ends_at s after k holds inside none =
    let size = holds.rests.size in
    let off = none_at s.pend (suc k) none in
    record {
      after = after;
      holds = record {
        rests = holds.rests;
        epoch = holds.epoch;
        within = holds.within;
        mixes = steady (λ n. is_mix_below s.base s.pend after n holds.epoch) (suc k) (length s.base) (omega arith) (λ j a b. mixes_skip s.base s.pend after j holds.epoch (off j a) (holds.rests.rest j (off j a))) ∙ holds.mixes;
      };
      shown = sym (steady (lines_below s.pend after) (suc k) (length after) (omega arith) (λ j a b. map_skip (left_line after) s.pend j (off j a)));
      state = refl;
    }

-- the lines so far, and those that follow
behind : (s : State) (after : List Block) (n k : ℕ) (value : Block) (item : Item) (lines : List Item) → Rests s.base s.pend after → Says s after n k value → item ≡ Left k value
    → lines_below s.pend after n ++ item ∷ lines ≡ lines_below s.pend (with_value after k value) (suc k) ++ lines
behind s after n k value item lines rests said is =
    ap (λ x. lines_below s.pend after n ++ x ∷ lines) is
    ∙ (sym (append_assoc (lines_below s.pend after n) (Left k value ∷ []) lines) ∙ ap (λ xs. xs ++ lines) (sym (lines_with s after n k value rests said)))

ends_with : (s t : State) (after : List Block) (k : ℕ) (lines : List Item) → Holds s after (suc k) → k < length s.base → next_left s.pend (suc k) ≡ None → Stops s after lines t → Ends s (lines_below s.pend after (suc k) ++ lines) t
ends_with s t after k lines holds inside none stop =
    let at = ends_at s after k holds inside none in
    record { after = at.after; holds = at.holds; shown = ap (λ xs. lines_below s.pend after (suc k) ++ xs) stop.none ∙ (append-nil (lines_below s.pend after (suc k)) ∙ at.shown); state = stop.state ∙ at.state }

ends_later : (s t : State) (xs ys : List Item) → xs ≡ ys → Ends s ys t → Ends s xs t
ends_later s t xs ys same ends = record { after = ends.after; holds = ends.holds; shown = same ∙ ends.shown; state = ends.state }

owes_still : (s t : State) (after : List Block) (n : ℕ) → t ≡ part_shown s after n → t.owed ≡ Nothing → ⊥
owes_still s t after n at owed =
    let both : Nothing ≡ LeftOwed (shown_to s.pend n) = sym owed ∙ ap (λ (x : State). x.owed) at in
    absurd (cc)

back : (s t : State) (after : List Block) (n : ℕ) (lines : List Item) → All (IsWithin s.base) s.pend → Rests s.base s.pend after → All (λ item. is_left_line item ≡ true) lines → Steps (part_shown s after n) lines t → t.owed ≡ Nothing
    → Ends s (lines_below s.pend after n ++ lines) t
back s t after n [] within rests all steps owed = absurd (owes_still s t after n steps owed)
back s t after n (item ∷ lines) within rests all steps owed =
    let shown = left_is item (All-head (λ item. is_left_line item ≡ true) item lines all) in
    let k = shown.sector in
    let value = shown.value in
    let tail = All-tail (λ item. is_left_line item ≡ true) item lines all in
    let said : Says s after n k value = says s after n k value (ap (line_rule (part_shown s after n)) (sym shown.is) ∙ steps.0) in
    let other = with_value after k value in
    let holds = holds_with s after n k value rests said in
    let to : effect (part_shown s after n) item ≡ shown_below s other (suc k) = ap (effect (part_shown s after n)) shown.is ∙ effect_with s after n k value within rests said in
    let rest : Steps (shown_below s other (suc k)) lines t = subst (λ u. Steps u lines t) to steps.1 in
    ends_later s t (lines_below s.pend after n ++ item ∷ lines) (lines_below s.pend other (suc k) ++ lines) (behind s after n k value item lines rests said shown.is)
    (elim (option_cases (next_left s.pend (suc k))) [
      | inl none ↦ ends_with s t other k lines holds said.inside none (stops s other t lines tail (subst (λ u. Steps u lines t) (shown_none s other (suc k) none) rest))
      | inr some ↦ back s t other (suc k) lines within holds.rests tail (subst (λ u. Steps u lines t) (shown_some s other (suc k) some.0 some.1) rest) owed
    ])

shows_at : (s t : State) (lines : List Item) → Ends s lines t → ShowsLeft s lines t
shows_at s t lines ends =
    let at : t.base ≡ ends.after = ap (λ (x : State). x.base) ends.state in
    record {
      can = subst (CanBeLeft s.base s.pend) (sym at) (record {
        size = ends.holds.rests.size;
        rest = ends.holds.rests.rest;
        left = is_left-from s.base s.pend ends.after ends.holds.epoch ends.holds.within ends.holds.mixes;
      });
      shown = ends.shown ∙ ap (left_lines s.pend) (sym at);
      state = ends.state ∙ ap (all_shown s) (sym at);
    }

pub left_shown : (s t : State) (lines : List Item) → IsLeftShown s lines t
left_shown s t lines owes all steps owed =
    shows_at s t lines (back s t s.base 0 lines owes.within (record { size = refl; rest = λ k off. refl }) all (subst (λ u. Steps u lines t) (sym (part_first s s.base owes)) steps) owed)
