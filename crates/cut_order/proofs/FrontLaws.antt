-- The used lines are the first ones: the line that is due is the one behind them, since numbers rise.
use Rattle.std.proofs.Common.{◌≡◌, ◌∙◌, ℕ, zero, suc, ◌+◌, ◌-◌, ◌<◌, ◌≤◌, Bool, true, false, cond, not, ◌&&◌, List, [], ◌∷◌, ◌++◌, inl, inr, ◌⊎◌, length, set, get_or, arith, refl, ap, sym}
use Rattle.std.specs.Prelude.{All, nat_le, Some, None, is_some, replicate, zip}
use Rattle.std.specs.List.{position_or_len}
use Rattle.std.proofs.lemmas.Bool.{true≢false, cases_lt, le-leb, lt-leb, le-ltb, lt-ltb}
use Rattle.storage_model.specs.Faults.{AreRising}
use Rattle.trace_effects.specs.Cuts.{used}
use Rattle.storage_model.specs.declared.faults.Letter.{Letter}
use Rattle.cut_order.specs.Order.{OrderState, due_at, front, with_line}

-- how many lines stand before the one that is due, or all
abbrev before_due : (cuts : List ℕ) (used : List Bool) (sent : ℕ) → ℕ
before_due cuts used sent = position_or_len (λ line. not line.1 && nat_le line.0 sent) (zip cuts used)

-- the first lines used, and the rest not
abbrev parted : (first rest : ℕ) → List Bool
parted first rest = replicate first true ++ replicate rest false

length-zip : (cuts : List ℕ) (first rest : ℕ) → first + rest ≡ length cuts → length (zip cuts (parted first rest)) ≡ length cuts
length-zip [] zero zero e = refl
length-zip [] zero (suc rest) e = absurd (omega arith)
length-zip [] (suc first) rest e = absurd (omega arith)
length-zip (n ∷ cuts) zero zero e = absurd (omega arith)
length-zip (n ∷ cuts) zero (suc rest) e = ap suc (length-zip cuts zero rest (omega arith))
length-zip (n ∷ cuts) (suc first) rest e = ap suc (length-zip cuts first rest (omega arith))

none_unused : (cuts : List ℕ) (rest sent : ℕ) → rest ≡ length cuts → All (λ n. sent < n) cuts → before_due cuts (replicate rest false) sent ≡ length cuts
none_unused [] rest sent e above = refl
none_unused (n ∷ cuts) zero sent e above = absurd (omega arith)
none_unused (n ∷ cuts) (suc rest) sent e above =
    let later = none_unused cuts rest sent (omega arith) (λ k d below. above (suc k) d (omega arith)) in
    ap (λ b. cond (not b) (1 + before_due cuts (replicate rest false) sent) 0) (lt-leb n sent (above zero n (omega arith))) ∙ omega (arith, later)

before_come : (cuts : List ℕ) (first rest sent d : ℕ) → first + rest ≡ length cuts → first < length cuts → get_or cuts first d ≤ sent
    → before_due cuts (parted first rest) sent ≡ first
before_come [] first rest sent d e below come = absurd (omega arith)
before_come (n ∷ cuts) zero zero sent d e below come = absurd (omega arith)
before_come (n ∷ cuts) zero (suc rest) sent d e below come =
    ap (λ b. cond (not b) (1 + before_due cuts (replicate rest false) sent) 0) (le-leb n sent come)
before_come (n ∷ cuts) (suc first) rest sent d e below come = omega (arith, before_come cuts first rest sent d (omega arith) (omega arith) come)

before_none : (cuts : List ℕ) (first rest sent d : ℕ) → AreRising cuts → first + rest ≡ length cuts → (first < length cuts → sent < get_or cuts first d)
    → before_due cuts (parted first rest) sent ≡ length cuts
before_none [] first rest sent d rising e later = refl
before_none (n ∷ cuts) zero zero sent d rising e later = absurd (omega arith)
before_none (n ∷ cuts) zero (suc rest) sent d rising e later =
    let above : sent < n = later (omega arith) in
    none_unused (n ∷ cuts) (suc rest) sent (omega arith) (λ k x below. by k x below above)
  where
    by : (k x : ℕ) → k < length (n ∷ cuts) → sent < n → sent < get_or (n ∷ cuts) k x
    by zero x below above = above
    by (suc k) x below above = omega (arith, rising zero (suc k) x (omega arith) below)
before_none (n ∷ cuts) (suc first) rest sent d rising e later =
    omega (arith, before_none cuts first rest sent d (λ i j x before below. rising (suc i) (suc j) x (omega arith) (omega arith)) (omega arith) (λ below. later (omega arith)))

-- the line behind the used ones is due where its number has come
pub due_come : (cuts : List ℕ) (first sent d : ℕ) → first < length cuts → get_or cuts first d ≤ sent → due_at cuts (front first (length cuts)) sent ≡ Some first
due_come cuts first sent d below come =
    let rest = length cuts - first in
    let e : first + rest ≡ length cuts = omega arith in
    let place = before_come cuts first rest sent d e below come in
    let size = length-zip cuts first rest e in
    ap (λ b. cond b (Some (before_due cuts (parted first rest) sent)) None) (lt-ltb (before_due cuts (parted first rest) sent) (length (zip cuts (parted first rest))) (omega (arith, place, size)))
    ∙ ap Some place

-- else none is
pub due_none : (cuts : List ℕ) (first sent d : ℕ) → AreRising cuts → first ≤ length cuts → (first < length cuts → sent < get_or cuts first d) → due_at cuts (front first (length cuts)) sent ≡ None
due_none cuts first sent d rising within later =
    let rest = length cuts - first in
    let e : first + rest ≡ length cuts = omega arith in
    let place = before_none cuts first rest sent d rising e later in
    let size = length-zip cuts first rest e in
    ap (λ b. cond b (Some (before_due cuts (parted first rest) sent)) None) (le-ltb (before_due cuts (parted first rest) sent) (length (zip cuts (parted first rest))) (omega (arith, place, size)))

-- so a test of that line alone tells
pub due_within : (cuts : List ℕ) (first sent d : ℕ) → AreRising cuts → first < length cuts → nat_le (get_or cuts first d) sent ≡ is_some (due_at cuts (front first (length cuts)) sent)
due_within cuts first sent d rising below = by (cases_lt sent (get_or cuts first d))
  where
    by : (sent < get_or cuts first d) ⊎ (get_or cuts first d ≤ sent) → nat_le (get_or cuts first d) sent ≡ is_some (due_at cuts (front first (length cuts)) sent)
    by (inl later) = lt-leb (get_or cuts first d) sent later ∙ sym (ap is_some (due_none cuts first sent d rising (omega arith) (λ _. later)))
    by (inr come) = le-leb (get_or cuts first d) sent come ∙ sym (ap is_some (due_come cuts first sent d below come))

pub due_past : (cuts : List ℕ) (first sent : ℕ) → AreRising cuts → first ≤ length cuts → length cuts ≤ first → false ≡ is_some (due_at cuts (front first (length cuts)) sent)
due_past cuts first sent rising within past = sym (ap is_some (due_none cuts first sent 0 rising within (λ below. absurd (omega arith))))

-- and it is the one that is used
pub due_first : (cuts : List ℕ) (first sent : ℕ) → AreRising cuts → first < length cuts → is_some (due_at cuts (front first (length cuts)) sent) ≡ true
    → due_at cuts (front first (length cuts)) sent ≡ Some first
due_first cuts first sent rising below due = by (cases_lt sent (get_or cuts first 0))
  where
    by : (sent < get_or cuts first 0) ⊎ (get_or cuts first 0 ≤ sent) → due_at cuts (front first (length cuts)) sent ≡ Some first
    by (inl later) = absurd (true≢false (sym due ∙ ap is_some (due_none cuts first sent 0 rising (omega arith) (λ _. later))))
    by (inr come) = due_come cuts first sent 0 below come

set_parted : (first rest : ℕ) → set (parted first (suc rest)) first true ≡ parted (suc first) rest
set_parted zero rest = refl
set_parted (suc first) rest = ap {B = List Bool} (λ flags. true ∷ flags) (set_parted first rest)

-- one line more is used
pub used_front : (first lines : ℕ) → first < lines → used (front first lines) (Some first) ≡ front (first + 1) lines
used_front first lines below =
    let more : lines - first ≡ suc (lines - (first + 1)) = omega arith in
    let next : suc first ≡ first + 1 = omega arith in
    ap (λ rest. set (parted first rest) first true) more ∙ (set_parted first (lines - (first + 1)) ∙ ap (λ n. parted n (lines - (first + 1))) next)

-- an order whose first lines are used
abbrev pub order_at : List Letter → (letters : ℕ) → List ℕ → (first : ℕ) → OrderState
order_at turns letters cuts first = record { turns = turns; letters = letters; cuts = cuts; used = front first (length cuts) }

pub with_line_first : (turns : List Letter) (letters : ℕ) (cuts : List ℕ) (first sent : ℕ) → AreRising cuts → first < length cuts
    → is_some (due_at cuts (front first (length cuts)) sent) ≡ true → with_line (order_at turns letters cuts first) sent ≡ order_at turns letters cuts (first + 1)
with_line_first turns letters cuts first sent rising below due =
    let line = ap (λ l. used (front first (length cuts)) l) (due_first cuts first sent rising below due) ∙ used_front first (length cuts) below in
    ap {B = OrderState} (λ flags. record { turns = turns; letters = letters; cuts = cuts; used = flags }) line

-- at the start
pub front_fresh : (lines : ℕ) → front 0 lines ≡ replicate lines false
front_fresh lines = ap (λ n. replicate n false) (omega arith)
