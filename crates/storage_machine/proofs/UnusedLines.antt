-- The first line that isn't used and whose number passes a test.
use Rattle.std.proofs.Common.{◌≡◌, ℕ, zero, suc, ◌+◌, ◌<◌, ◌≤◌, Bool, true, false, cond, ◌&&◌, not, List, [], ◌∷◌, length, map, refl, sym, ap, ◌∙◌, arith, subst}
use Rattle.std.specs.Prelude.{◌==◌, None, Some, min, nat_lt, get_or, position, replicate, set, zip}
use Rattle.std.specs.List.{list_any, position_or_len}
use Rattle.std.proofs.lemmas.Bool.{eqb-true, eqb-false, false≢true, ltb-true, ltb-false}
use Rattle.std.proofs.lemmas.List.{get_or-map, length-map, map-set}
use Rattle.std.proofs.lemmas.List.Folds.{list_any_at}
use Rattle.std.proofs.lemmas.List.Sums.{position_or_len_is}
use Rattle.std.proofs.lemmas.Slice.Zip.{get_or-zip, length-zip}
use Rattle.storage_model.specs.Faults.{AreRising}

pub line_used : (unused : List Bool) (place : ℕ) → map not (set unused place false) ≡ set (map not unused) place true
line_used unused place = map-set not unused place false

-- no line before a place is unused and passes
abbrev pub IsPast : (ℕ → Bool) → List ℕ → List Bool → ℕ → Type 0
IsPast p lines unused place = (k : ℕ) → k < place → get_or unused k false ≡ true → p (get_or lines k 0) ≡ false

abbrev pub passing : (ℕ → Bool) → ℕ × Bool → Bool
passing p line = not line.1 && p line.0

abbrev pub rows : List ℕ → List Bool → List (ℕ × Bool)
rows lines unused = zip lines (map not unused)

pub past-start : (p : ℕ → Bool) (lines : List ℕ) (unused : List Bool) (from : ℕ) → ((k : ℕ) → k < from → get_or unused k false ≡ false)
    → IsPast p lines unused from
past-start p lines unused from before k low up = absurd (false≢true (sym (before k low) ∙ up))

past_at : (p : ℕ → Bool) (lines : List ℕ) (unused : List Bool) (place k : ℕ) (b : Bool) → (k == place) ≡ b → k < place + 1 → IsPast p lines unused place
    → (get_or unused place false ≡ true → p (get_or lines place 0) ≡ false) → get_or unused k false ≡ true → p (get_or lines k 0) ≡ false
past_at p lines unused place k true h low past here up =
    let same : k ≡ place = eqb-true k place h in
    subst (λ n. get_or unused n false ≡ true → p (get_or lines n 0) ≡ false) (sym same) here up
past_at p lines unused place k false h low past here up =
    let apart = eqb-false k place h in
    past k (omega (arith, apart, low)) up

pub past-more : (p : ℕ → Bool) (lines : List ℕ) (unused : List Bool) (place : ℕ) → IsPast p lines unused place
    → (get_or unused place false ≡ true → p (get_or lines place 0) ≡ false) → IsPast p lines unused (place + 1)
past-more p lines unused place past here k low up = past_at p lines unused place k (k == place) refl low past here up

beyond : (p : ℕ → Bool) (lines : List ℕ) (place k : ℕ) (b : Bool) → (k == place) ≡ b → AreRising lines → place ≤ k → k < length lines
    → ((x : ℕ) → get_or lines place 0 ≤ x → p x ≡ false) → p (get_or lines k 0) ≡ false
beyond p lines place k true h rising far low above =
    let same : k ≡ place = eqb-true k place h in
    subst (λ n. p (get_or lines n 0) ≡ false) (sym same) (above (get_or lines place 0) (omega arith))
beyond p lines place k false h rising far low above =
    let apart = eqb-false k place h in
    let less = rising place k 0 (omega (arith, apart, far)) low in
    above (get_or lines k 0) (omega (arith, less))

past_to : (p : ℕ → Bool) (lines : List ℕ) (unused : List Bool) (place k : ℕ) (b : Bool) → nat_lt k place ≡ b → AreRising lines → IsPast p lines unused place
    → ((x : ℕ) → get_or lines place 0 ≤ x → p x ≡ false) → k < length lines → get_or unused k false ≡ true → p (get_or lines k 0) ≡ false
past_to p lines unused place k true h rising past above low up = past k (ltb-true k place h) up
past_to p lines unused place k false h rising past above low up =
    let far = ltb-false k place h in
    beyond p lines place k (k == place) refl rising (omega (arith, far)) low above

-- where the numbers rise and none from a place's on passes, no unused line passes
pub past-all : (p : ℕ → Bool) (lines : List ℕ) (unused : List Bool) (place : ℕ) → AreRising lines → IsPast p lines unused place
    → ((x : ℕ) → get_or lines place 0 ≤ x → p x ≡ false) → IsPast p lines unused (length lines)
past-all p lines unused place rising past above k low up = past_to p lines unused place k (nat_lt k place) refl rising past above low up

row : (lines : List ℕ) (unused : List Bool) (k : ℕ) → k < length lines → k < length unused
    → get_or (rows lines unused) k (0, true) ≡ (get_or lines k 0, not (get_or unused k false))
row lines unused k low less =
    get_or-zip lines (map not unused) k (0, true) low (omega (arith, less, length-map unused not))
    ∙ ap (λ flag. (get_or lines k 0, flag)) (get_or-map not unused k false true less)

size : (lines : List ℕ) (unused : List Bool) → length (rows lines unused) ≡ min (length lines) (length unused)
size lines unused = omega (arith, length-zip lines (map not unused), length-map unused not)

fails_at : (p : ℕ → Bool) (number : ℕ) (flag : Bool) → (flag ≡ true → p number ≡ false) → (not (not flag) && p number) ≡ false
fails_at p number false h = refl
fails_at p number true h = h refl

passes_at : (p : ℕ → Bool) (number : ℕ) (flag : Bool) → flag ≡ true → p number ≡ true → (not (not flag) && p number) ≡ true
passes_at p number false up h = absurd (false≢true up)
passes_at p number true up h = h

fails : (p : ℕ → Bool) (lines : List ℕ) (unused : List Bool) (place k : ℕ) → IsPast p lines unused place → k < place → k < length (rows lines unused)
    → passing p (get_or (rows lines unused) k (0, true)) ≡ false
fails p lines unused place k past low less =
    ap (passing p) (row lines unused k (omega (arith, less, size lines unused)) (omega (arith, less, size lines unused)))
    ∙ fails_at p (get_or lines k 0) (get_or unused k false) (past k low)

passes : (p : ℕ → Bool) (lines : List ℕ) (unused : List Bool) (place : ℕ) → place < length lines → place < length unused
    → get_or unused place false ≡ true → p (get_or lines place 0) ≡ true → passing p (get_or (rows lines unused) place (0, true)) ≡ true
passes p lines unused place low less up here =
    ap (passing p) (row lines unused place low less) ∙ passes_at p (get_or lines place 0) (get_or unused place false) up here

none_at : (b : Bool) (x : ℕ) → b ≡ false → cond b (Some x) None ≡ None
none_at b x e = rw e refl

some_at : (b : Bool) (x y : ℕ) → b ≡ true → x ≡ y → cond b (Some x) None ≡ Some y
some_at b x y e same = rw (e, same) refl

pub none-passes : (p : ℕ → Bool) (lines : List ℕ) (unused : List Bool) (place : ℕ) → IsPast p lines unused place
    → min (length lines) (length unused) ≤ place → position (passing p) (rows lines unused) ≡ None
none-passes p lines unused place past far =
    let all = size lines unused in
    let end : position_or_len (passing p) (rows lines unused) ≡ length (rows lines unused) =
    position_or_len_is (passing p) (rows lines unused) (length (rows lines unused)) (0, true) (omega arith)
    (λ k l. fails p lines unused place k past (omega (arith, l, far, all)) l) (λ l. absurd (omega (arith, l))) in
    none_at (nat_lt (position_or_len (passing p) (rows lines unused)) (length (rows lines unused))) _ (grind (arith, end))

pub some-passes : (p : ℕ → Bool) (lines : List ℕ) (unused : List Bool) (place : ℕ) → IsPast p lines unused place
    → place < length lines → place < length unused → get_or unused place false ≡ true → p (get_or lines place 0) ≡ true
    → position (passing p) (rows lines unused) ≡ Some place
some-passes p lines unused place past low less up here =
    let all = size lines unused in
    let at : position_or_len (passing p) (rows lines unused) ≡ place =
    position_or_len_is (passing p) (rows lines unused) place (0, true) (omega (arith, all, low, less))
    (λ k l. fails p lines unused place k past l (omega (arith, l, all, low, less))) (λ l. passes p lines unused place low less up here) in
    some_at (nat_lt (position_or_len (passing p) (rows lines unused)) (length (rows lines unused))) _ place (grind (arith, at, all, low, less)) at

any_at : (p : ℕ → Bool) (lines : List ℕ) (unused : List Bool) → ((k : ℕ) → k < length (rows lines unused) → passing p (get_or (rows lines unused) k (0, true)) ≡ false)
    → list_any (passing p) (rows lines unused) ≡ false
any_at p lines unused none = none_of (passing p) (rows lines unused) none
  where
    none_of : (q : ℕ × Bool → Bool) (xs : List (ℕ × Bool)) → ((k : ℕ) → k < length xs → q (get_or xs k (0, true)) ≡ false) → list_any q xs ≡ false
    none_of q [] none = refl
    none_of q (x ∷ xs) none =
        let here : q x ≡ false = none 0 (omega arith) in
        let rest = none_of q xs (λ k l. none (suc k) (omega (arith, l))) in
        rw (here, rest) refl

pub none-any : (p : ℕ → Bool) (lines : List ℕ) (unused : List Bool) (place : ℕ) → IsPast p lines unused place
    → min (length lines) (length unused) ≤ place → list_any (passing p) (rows lines unused) ≡ false
none-any p lines unused place past far =
    let all = size lines unused in
    any_at p lines unused (λ k l. fails p lines unused place k past (omega (arith, l, far, all)) l)

pub some-any : (p : ℕ → Bool) (lines : List ℕ) (unused : List Bool) (place : ℕ) → place < length lines → place < length unused
    → get_or unused place false ≡ true → p (get_or lines place 0) ≡ true → list_any (passing p) (rows lines unused) ≡ true
some-any p lines unused place low less up here =
    let all = size lines unused in
    list_any_at (passing p) (rows lines unused) place (0, true) (omega (arith, all, low, less)) (passes p lines unused place low less up here)

pub all_unused : (n : ℕ) → map not (replicate n true) ≡ replicate n false
all_unused zero = refl
all_unused (suc n) = ap (λ flags. false ∷ flags) (all_unused n)
