-- Searches for the same in the same list, and what a search that finds nothing tells.
use Rattle.std.proofs.Common.{◌≡◌, ℕ, zero, suc, Bool, true, false, cond, Option, List, [], ◌∷◌, map, refl, sym, ap, subst, ◌∙◌}
use Rattle.std.specs.Prelude.{Some, None, is_some, slice_get, ◌||◌}
use Rattle.std.specs.List.{All, find, list_any}
use Rattle.std.proofs.lemmas.Bool.{false≢true}
use Rattle.std.proofs.lemmas.List.Elements.{All-head, All-tail, All-nil, All-cons}
use Rattle.std.proofs.lemmas.Option.{none-some, same_Some}

pub find_alike : (p q : ℕ → Bool) (xs : List ℕ) → All (λ x. p x ≡ q x) xs → find p xs ≡ find q xs
find_alike p q [] alike = refl
find_alike p q (x ∷ xs) alike =
    ap (λ b. cond b (Some x) (find p xs)) (All-head (λ x. p x ≡ q x) x xs alike)
    ∙ ap (λ rest. cond (q x) (Some x) rest) (find_alike p q xs (All-tail (λ x. p x ≡ q x) x xs alike))

pub any_alike : {A : Type 0} (p q : A → Bool) (xs : List A) → All (λ x. p x ≡ q x) xs → list_any p xs ≡ list_any q xs
any_alike p q [] alike = refl
any_alike p q (x ∷ xs) alike =
    ap (λ b. b || list_any p xs) (All-head (λ x. p x ≡ q x) x xs alike)
    ∙ ap (λ rest. q x || rest) (any_alike p q xs (All-tail (λ x. p x ≡ q x) x xs alike))

pub any_mapped : {A B : Type 0} (p : B → Bool) (f : A → B) (xs : List A) → list_any p (map f xs) ≡ list_any (λ x. p (f x)) xs
any_mapped p f [] = refl
any_mapped p f (x ∷ xs) = ap (λ rest. p (f x) || rest) (any_mapped p f xs)

found_if : (b : Bool) (x : ℕ) (rest : Option ℕ) (more : Bool) → is_some rest ≡ more → is_some (cond b (Some x) rest) ≡ (b || more)
found_if true x rest more e = refl
found_if false x rest more e = e

pub is_some_find : (p : ℕ → Bool) (xs : List ℕ) → is_some (find p xs) ≡ list_any p xs
is_some_find p [] = refl
is_some_find p (x ∷ xs) = found_if (p x) x (find p xs) (list_any p xs) (is_some_find p xs)

none_head : (b : Bool) (x : ℕ) (rest : Option ℕ) → cond b (Some x) rest ≡ None → (b ≡ false) × (rest ≡ None)
none_head true x rest e = absurd (none-some x (sym e))
none_head false x rest e = (refl, e)

pub none_found : (p : ℕ → Bool) (xs : List ℕ) → find p xs ≡ None → All (λ x. p x ≡ false) xs
none_found p [] e = All-nil (λ x. p x ≡ false)
none_found p (x ∷ xs) e =
    let parts = none_head (p x) x (find p xs) e in
    All-cons (λ x. p x ≡ false) x xs parts.0 (none_found p xs parts.1)

found_head : (P : ℕ → Type 0) (b : Bool) (x y : ℕ) (rest : Option ℕ) → P x → (rest ≡ Some y → P y) → cond b (Some x) rest ≡ Some y → P y
found_head P true x y rest here later e = subst P (same_Some x y e) here
found_head P false x y rest here later e = later e

-- what is found is one of them, and passes
pub found_one : (P : ℕ → Type 0) (p : ℕ → Bool) (xs : List ℕ) (x : ℕ) → All P xs → find p xs ≡ Some x → P x
found_one P p [] x all e = absurd (none-some x e)
found_one P p (y ∷ xs) x all e = found_head P (p y) y x (find p xs) (All-head P y xs all) (λ rest. found_one P p xs x (All-tail P y xs all) rest) e

passing_head : (p : ℕ → Bool) (b : Bool) (x y : ℕ) (rest : Option ℕ) → p x ≡ b → (rest ≡ Some y → p y ≡ true) → cond b (Some x) rest ≡ Some y → p y ≡ true
passing_head p true x y rest here later e = subst (λ n. p n ≡ true) (same_Some x y e) here
passing_head p false x y rest here later e = later e

pub found_passes : (p : ℕ → Bool) (xs : List ℕ) (x : ℕ) → find p xs ≡ Some x → p x ≡ true
found_passes p [] x e = absurd (none-some x e)
found_passes p (y ∷ xs) x e = passing_head p (p y) y x (find p xs) refl (λ rest. found_passes p xs x rest) e

pub all_at : (P : ℕ → Type 0) (xs : List ℕ) (k x : ℕ) → All P xs → slice_get xs k ≡ Some x → P x
all_at P [] k x all e = absurd (none-some x e)
all_at P (y ∷ xs) zero x all e = subst P (same_Some y x e) (All-head P y xs all)
all_at P (y ∷ xs) (suc k) x all e = all_at P xs k x (All-tail P y xs all) e

-- two tests that follow from each other
pub same_tests : (a b : Bool) → (a ≡ true → b ≡ true) → (b ≡ true → a ≡ true) → a ≡ b
same_tests true b f g = sym (f refl)
same_tests false true f g = absurd (false≢true (g refl))
same_tests false false f g = refl
