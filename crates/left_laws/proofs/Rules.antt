-- The rule that a line of what is left is under.
use Rattle.std.proofs.Common.{◌≡◌, ◌∙◌, ℕ, zero, suc, ◌+◌, ◌<◌, ◌≤◌, inl, inr, Bool, true, false, cond, ◌&&◌, ◌||◌, Option, Some, None, All, List, [], ◌∷◌, filter, get_or, length, slice_get, nat_lt, refl, ap, sym, arith}
use Rattle.std.proofs.lemmas.Bool.{and_from, and_parts, both_ways, cases_Bool, cases_lt, eq-eqb, eqb-true, lt-ltb, ltb-true, or_cases}
use Rattle.std.proofs.lemmas.List.Folds.{list_any_at}
use Rattle.std.proofs.lemmas.List.FromFn.{get_or-range_with_len, length-range_with_len}
use Rattle.std.proofs.lemmas.Option.{slice_get-get_or}
use Rattle.std.proofs.lemmas.Slice.Eq.{bytes_eq-Decides}
use Rattle.std.specs.List.{list_any, range_with_len}
use Rattle.left_laws.proofs.Lowest.{next_at, next_is}
use Rattle.left_laws.proofs.Sectors.{put_inside, shown_behind}
use Rattle.left_laws.specs.Lines.{CanBeLeft, has_put, is_mix_below, left_line, part_shown, shown_to}
use Rattle.storage_machine.specs.Cuts.{least, next_left, same_block, shows}
use Rattle.storage_machine.specs.declared.state.Owed.TheVariants.{Left as LeftOwed}
use Rattle.storage_machine.specs.declared.state.State.{State}
use Rattle.storage_model.proofs.Below.{every_below_from}
use Rattle.storage_model.proofs.Cuts.{is_left-at, is_left_in-at}
use Rattle.storage_model.specs.Contents.{IsWithin, bars, sector_at}
use Rattle.storage_model.specs.Left.{mix_at}
use Rattle.storage_model.specs.declared.block.Block.{Block}
use Rattle.storage_model.specs.declared.marks.Mark.{Mark}
use Rattle.storage_model.specs.declared.trace.Item.{Item}
use Rattle.storage_model.specs.declared.trace.Item.TheVariants.{Left}
use Rattle.trace_effects.specs.Cuts.{all_epochs}
use Rattle.trace_rules.specs.Lines.{holds, is_allowed, is_for, is_number, left_by_owed, left_holds, line_rule, owing, owing_past, rule_of}
use Rattle.trace_rules.specs.Steps.{is_left_so}

-- an epoch passes two tests where it passes the second and stays in the list of those that pass the first

any_filter : {X : Type 0} (p q : X → Bool) (xs : List X) → list_any p (filter q xs) ≡ list_any (λ x. q x && p x) xs
any_filter p q [] = refl
any_filter p q (x ∷ xs) =
    elim (cases_Bool (q x)) [
      | inl found ↦ rw found (ap (λ b. p x || b) (any_filter p q xs))
      | inr lost ↦ rw lost (any_filter p q xs)
    ]

any_in : (test : ℕ → Bool) (a n : ℕ) → list_any test (range_with_len a n) ≡ true → (k : ℕ) × (a ≤ k) × (k < a + n) × (test k ≡ true)
any_in test a zero h = absurd (cc)
any_in test a (suc n) h =
    elim (or_cases (test a) (list_any test (range_with_len (a + 1) n)) h) [
      | inl here ↦ (a, omega arith, omega arith, here)
      | inr later ↦ let found = any_in test (a + 1) n later in let low = found.1 in let high = found.2 in (found.0, omega arith, omega arith, found.3)
    ]

pub any_epoch : (p q : ℕ → Bool) (pend : List Mark) (e : ℕ) → e ≤ bars pend → q e ≡ true → p e ≡ true → list_any p (filter q (all_epochs pend)) ≡ true
unfolding all_epochs
any_epoch p q pend e within one other =
    let long = length-range_with_len 0 (bars pend + 1) in
    let at : get_or (range_with_len 0 (bars pend + 1)) e 0 ≡ e = get_or-range_with_len 0 (bars pend + 1) e 0 (omega arith) ∙ omega arith in
    any_filter p q (range_with_len 0 (bars pend + 1))
    ∙ list_any_at (λ x. q x && p x) (range_with_len 0 (bars pend + 1)) e 0 (omega arith) (ap (λ x. q x && p x) at ∙ and_from (q e) (p e) one other)

pub epoch_of : (p q : ℕ → Bool) (pend : List Mark) → list_any p (filter q (all_epochs pend)) ≡ true → (e : ℕ) × (e ≤ bars pend) × (q e ≡ true) × (p e ≡ true)
unfolding all_epochs
epoch_of p q pend h =
    let found = any_in (λ x. q x && p x) 0 (bars pend + 1) (sym (any_filter p q (range_with_len 0 (bars pend + 1))) ∙ h) in
    let high = found.2 in
    let both = and_parts (q found.0) (p found.0) found.3 in
    (found.0, omega arith, both.0, both.1)

-- a line that may stand

pub line_none : (s : State) (sector : ℕ) (value : Block) (from : ℕ) → s.owed ≡ LeftOwed from → left_by_owed s sector value (LeftOwed from) ≡ true → line_rule s (Left sector value) ≡ None
unfolding line_rule holds left_holds
line_none s sector value from owed may = rw (owed, may) refl

-- the sector is the next one
next_shown : (pend : List Mark) (k : ℕ) → has_put k pend ≡ true → next_left pend (shown_to pend k) ≡ Some k
next_shown pend k put = let behind = shown_behind pend k in next_is pend (shown_to pend k) k behind.0 put behind.1

-- an epoch allows its value, and those before it
allowed : (s : State) (after : List Block) (k : ℕ) → CanBeLeft s.base s.pend after → k < length s.base → is_allowed (part_shown s after k) k (sector_at after k) ≡ true
allowed s after k can inside =
    let found = is_left-at s.base s.pend after can.left in
    any_epoch (λ e. mix_at s.base s.pend e k (sector_at after k)) (is_mix_below s.base s.pend after k) s.pend found.0 found.1
    (every_below_from k (λ j. mix_at s.base s.pend found.0 j (sector_at after j)) (λ j below. is_left_in-at s.base s.pend after found.0 j found.2 (omega arith)))
    (is_left_in-at s.base s.pend after found.0 k found.2 inside)

pub line_may : (s : State) (after : List Block) (k : ℕ) → All (IsWithin s.base) s.pend → CanBeLeft s.base s.pend after → has_put k s.pend ≡ true → line_rule (part_shown s after k) (left_line after k) ≡ None
line_may s after k within can put =
    let inside = put_inside s.base s.pend k within put in
    line_none (part_shown s after k) k (sector_at after k) (shown_to s.pend k) refl
    (and_from (is_number k (next_left s.pend (shown_to s.pend k))) (nat_lt k (length s.base) && is_allowed (part_shown s after k) k (sector_at after k))
    (ap (is_number k) (next_shown s.pend k put) ∙ eq-eqb k k refl)
    (and_from (nat_lt k (length s.base)) (is_allowed (part_shown s after k) k (sector_at after k)) (lt-ltb k (length s.base) inside) (allowed s after k can inside)))

-- where nothing was staged, its value is the one that was kept

same_value : (block : Block) → same_block block block ≡ true
same_value block = (bytes_eq-Decides block.0 block.0).1 refl

so_by : (deferred : Bool) (base after : List Block) (k : ℕ) → k < length base → (deferred ≡ true → after ≡ base) → cond deferred (shows (slice_get base k) (sector_at after k)) true ≡ true
so_by false base after k inside kept = refl
so_by true base after k inside kept =
    ap (λ best. shows best (sector_at after k)) (slice_get-get_or base k (record { 0 = [] }) inside)
    ∙ (ap (λ c. same_block (sector_at base k) (sector_at c k)) (kept refl) ∙ same_value (sector_at base k))

pub line_so : (s : State) (after : List Block) (n k : ℕ) → k < length s.base → (s.deferred ≡ true → after ≡ s.base) → is_left_so (part_shown s after n) (left_line after k) ≡ true
line_so s after n k inside kept = so_by s.deferred s.base after k inside kept

-- what a line that stands says

least_some : (best : Option ℕ) (x : ℕ) → least best x ≡ None → ⊥
least_some None x h = absurd (cc)
least_some (Some y) x h = absurd (cc)

holds_by : (s : State) (item : Item) (b : Bool) → cond b (cond (is_for s.owed item) None (owing s.owed)) (least (owing_past s item) (rule_of item)) ≡ None → b ≡ true
holds_by s item true h = refl
holds_by s item false h = absurd (least_some (owing_past s item) (rule_of item) h)

pub rule_holds : (s : State) (item : Item) → line_rule s item ≡ None → holds s item ≡ true
unfolding line_rule
rule_holds s item h = holds_by s item (holds s item) h

pub line_says : (s : State) (sector : ℕ) (value : Block) → line_rule s (Left sector value) ≡ None → left_by_owed s sector value s.owed ≡ true
unfolding holds left_holds
line_says s sector value h = rule_holds s (Left sector value) h

number_is : (k : ℕ) (best : Option ℕ) → is_number k best ≡ true → best ≡ Some k
number_is k None h = absurd (cc)
number_is k (Some m) h = let same : k ≡ m = eqb-true k m h in ap Some (sym same)

-- it is of the next sector, and an epoch allows its value and those before
pub record Says (s : State) (after : List Block) (n k : ℕ) (value : Block) : Type 0 where
  pub above : n ≤ k
  pub put : has_put k s.pend ≡ true
  pub gap : (j : ℕ) → n ≤ j → j < k → has_put j s.pend ≡ false
  pub inside : k < length s.base
  pub epoch : ℕ
  pub within : epoch ≤ bars s.pend
  pub before : is_mix_below s.base s.pend after n epoch ≡ true
  pub mixes : mix_at s.base s.pend epoch k value ≡ true

behind_bound : (pend : List Mark) (n k : ℕ) → has_put k pend ≡ true → shown_to pend n ≤ k → n ≤ k
behind_bound pend n k put above =
    elim (cases_lt k n) [
      | inl below ↦ absurd (both_ways (has_put k pend) ((shown_behind pend n).1 k above below) put)
      | inr at ↦ at
    ]

pub says : (s : State) (after : List Block) (n k : ℕ) (value : Block) → line_rule (part_shown s after n) (Left k value) ≡ None → Says s after n k value
says s after n k value h =
    let parts = and_parts (is_number k (next_left s.pend (shown_to s.pend n))) (nat_lt k (length s.base) && is_allowed (part_shown s after n) k value) (line_says (part_shown s after n) k value h) in
    let inner = and_parts (nat_lt k (length s.base)) (is_allowed (part_shown s after n) k value) parts.1 in
    let next = next_at s.pend (shown_to s.pend n) k (number_is k (next_left s.pend (shown_to s.pend n)) parts.0) in
    let found = epoch_of (λ e. mix_at s.base s.pend e k value) (is_mix_below s.base s.pend after n) s.pend inner.1 in
    let above = behind_bound s.pend n k next.1 next.0 in
    let low = (shown_behind s.pend n).0 in
    record {
      above = above;
      put = next.1;
      gap = λ j a b. next.2 j (omega arith) b;
      inside = ltb-true k (length s.base) inner.0;
      epoch = found.0;
      within = found.1;
      before = found.2;
      mixes = found.3;
    }
