-- The lowest request above a number.
use Rattle.std.proofs.Common.{◌≡◌, ℕ, ◌<◌, ◌≤◌, inl, inr, true, nat_lt, if◌then◌else◌, Option, Some, None, min, IfSome, All, List, [], ◌∷◌, fold, map, refl, ap, sym, subst, arith}
use Rattle.std.proofs.lemmas.Bool.{cases_Bool, ltb-true}
use Rattle.std.proofs.lemmas.List.Elements.{All-nil, All-cons, All-head, All-tail}
use Rattle.storage_machine.specs.Cuts.{first_lost, least, lower_issued}
use Rattle.storage_machine.specs.Slots.{asks_of}
use Rattle.storage_machine.specs.declared.slots.Question.TheVariants.{Issued as IsIssued}
use Rattle.storage_machine.specs.declared.state.Task.{Task}
use Rattle.cut_laws.specs.Lost.{above, id_in, ids_in, lower, next_lost}

-- what is left of a slot where the requests up to the last were lost
abbrev pub kept_above : ℕ → Option Task → Option Task
kept_above last None = None
kept_above last (Some task) = if nat_lt last task.id then Some task else None

abbrev pub AreIssued : List (Option Task) → Type 0
AreIssued slots = All (λ slot. IfSome slot (λ task. asks_of IsIssued task.standing ≡ true)) slots

abbrev P : Option Task → Type 0
P slot = IfSome slot (λ task. asks_of IsIssued task.standing ≡ true)

-- the machine's search is that of the numbers
lost_from : (last : ℕ) (best : Option ℕ) (slots : List (Option Task)) → AreIssued slots
    → fold lower_issued best (map (kept_above last) slots) ≡ fold lower best (map (above last) (map id_in slots))
lost_from last best [] all = refl
lost_from last best (None ∷ slots) all = lost_from last best slots (All-tail P None slots all)
lost_from last best (Some task ∷ slots) all =
    let issued : asks_of IsIssued task.standing ≡ true = All-head P (Some task) slots all in
    let rest = All-tail P (Some task) slots all in
    elim (cases_Bool (nat_lt last task.id)) [
      | inl over ↦ rw (over, issued) (lost_from last (least best task.id) slots rest)
      | inr under ↦ rw under (lost_from last best slots rest)
    ]

pub lost_is : (last : ℕ) (slots : List (Option Task)) → AreIssued slots → first_lost (map (kept_above last) slots) ≡ next_lost last (ids_in slots)
unfolding first_lost next_lost
lost_is last slots all = lost_from last None slots all

-- it is the lowest

abbrev pub IsFrom : ℕ → Option ℕ → Type 0
IsFrom id holder = IfSome holder (λ other. id ≤ other)

record LowestOf (id : ℕ) (best : Option ℕ) (xs : List (Option ℕ)) : Type 0 where
  all : All (IsFrom id) xs
  first : IsFrom id best

lowest_of : (best : Option ℕ) (xs : List (Option ℕ)) (id : ℕ) → fold lower best xs ≡ Some id → LowestOf id best xs
lowest_of best [] id is = record { all = All-nil (IsFrom id); first = subst (IsFrom id) (sym is) (omega arith) }
lowest_of best (None ∷ xs) id is =
    let rest = lowest_of best xs id is in
    record { all = All-cons (IsFrom id) None xs tt rest.all; first = rest.first }
lowest_of None (Some n ∷ xs) id is =
    let rest = lowest_of (Some n) xs id is in
    record { all = All-cons (IsFrom id) (Some n) xs rest.first rest.all; first = tt }
lowest_of (Some m) (Some n ∷ xs) id is =
    let rest = lowest_of (Some (min m n)) xs id is in
    let under : id ≤ min m n = rest.first in
    record { all = All-cons (IsFrom id) (Some n) xs (omega (arith, under)) rest.all; first = omega (arith, under) }

pub next_lowest : (last : ℕ) (holders : List (Option ℕ)) (id : ℕ) → next_lost last holders ≡ Some id → All (IsFrom id) (map (above last) holders)
unfolding next_lost
next_lowest last holders id is = (lowest_of None (map (above last) holders) id is).all

-- it is above the last

above_from : (last : ℕ) (best : Option ℕ) (holders : List (Option ℕ)) (id : ℕ) → IfSome best (λ n. last < n) → fold lower best (map (above last) holders) ≡ Some id → last < id
above_from last best [] id over is = subst (λ x. IfSome x (λ n. last < n)) is over
above_from last best (None ∷ holders) id over is = above_from last best holders id over is
above_from last best (Some n ∷ holders) id over is =
    elim (cases_Bool (nat_lt last n)) [
      | inl more ↦ above_from last (least best n) holders id (lower_above best n (ltb-true last n more) over) (rw more at is)
      | inr less ↦ above_from last best holders id over (rw less at is)
    ]
  where
    both_above : (m n : ℕ) → last < m → last < n → last < min m n
    both_above m n one two = omega arith

    lower_above : (best : Option ℕ) (n : ℕ) → last < n → IfSome best (λ m. last < m) → IfSome (least best n) (λ m. last < m)
    lower_above None n more over = more
    lower_above (Some m) n more over = both_above m n over more

pub next_above : (last : ℕ) (holders : List (Option ℕ)) (id : ℕ) → next_lost last holders ≡ Some id → last < id
unfolding next_lost
next_above last holders id is = above_from last None holders id tt is

-- where there is none, none is left

least_some : (best : Option ℕ) (n : ℕ) → least best n ≡ None → (m : ℕ) → least best n ≡ Some m
least_some None n is m = absurd (cc)
least_some (Some b) n is m = absurd (cc)

abbrev IsNone : Option ℕ → Type 0
IsNone holder = holder ≡ None

record NoneOf (best : Option ℕ) (xs : List (Option ℕ)) : Type 0 where
  all : All IsNone xs
  first : best ≡ None

none_of : (best : Option ℕ) (xs : List (Option ℕ)) → fold lower best xs ≡ None → NoneOf best xs
none_of best [] is = record { all = All-nil IsNone; first = is }
none_of best (None ∷ xs) is = let rest = none_of best xs is in record { all = All-cons IsNone None xs refl rest.all; first = rest.first }
none_of None (Some n ∷ xs) is = let rest = none_of (Some n) xs is in let no = rest.first in absurd (cc)
none_of (Some m) (Some n ∷ xs) is = let rest = none_of (Some (min m n)) xs is in let no = rest.first in absurd (cc)

pub none_above : (last : ℕ) (holders : List (Option ℕ)) → next_lost last holders ≡ None → All IsNone (map (above last) holders)
unfolding next_lost
none_above last holders is = (none_of None (map (above last) holders) is).all

-- then no slot is kept
pub none_kept : (last : ℕ) (slots : List (Option Task)) → All IsNone (map (above last) (map id_in slots)) → map (kept_above last) slots ≡ map (λ slot. None) slots
none_kept last [] none = refl
none_kept last (None ∷ slots) none = ap (λ more. None ∷ more) (none_kept last slots (All-tail IsNone None (map (above last) (map id_in slots)) none))
none_kept last (Some task ∷ slots) none =
    let head : above last (Some task.id) ≡ None = All-head IsNone (above last (Some task.id)) (map (above last) (map id_in slots)) none in
    let tail = none_kept last slots (All-tail IsNone (above last (Some task.id)) (map (above last) (map id_in slots)) none) in
    elim (cases_Bool (nat_lt last task.id)) [
      | inl over ↦ absurd (cc (rw over at head))
      | inr under ↦ rw under (ap (λ more. None ∷ more) tail)
    ]
