-- A pass over a list, seen as what is left of it.
use Rattle.std.proofs.Common.{◌≡◌, ℕ, ◌+◌, ◌<◌, List, ◌∷◌, drop, length, get_or, ap, ◌∙◌}
use Rattle.std.proofs.lemmas.List.{drop_more}

-- the next element, and what is left after it
pub next_of : {X : Type 0} (xs : List X) (i : ℕ) (d x : X) → i < length xs → get_or xs i d ≡ x → drop i xs ≡ x ∷ drop (i + 1) xs
next_of xs i d x below h = drop_more xs i d below ∙ ap (λ y. y ∷ drop (i + 1) xs) h
