-- A listing at which the sink failed.
use Rattle.std.proofs.Common.{◌≡◌, ℕ, ◌+◌, ◌<◌, List, ◌∷◌, ◌++◌, length, get_or, take, drop, flat_map, sym, ◌∙◌, ap, subst, append_assoc, take-append-drop}
use Rattle.std.proofs.lemmas.List.{drop_more}
use Rattle.std.proofs.lemmas.List.Concat.{flat_map-append}
use Rattle.io_edge.specs.Sink.{TookPart, Joins}
use Rattle.io_edge.proofs.Writes.{took_part-after, took_part-longer}

-- the lines before were taken, and a part of the next one: a part of all lines
pub part_at : {Self X : Type 0} {took : Self → List ℕ → Self → Type 0} → Joins took → (text : X → List ℕ) (xs : List X) (i : ℕ) (d : X) → i < length xs → (a b c : Self)
    → took a (flat_map text (take i xs)) b → TookPart took b (text (get_or xs i d)) c → TookPart took a (flat_map text xs) c
part_at {took = took} both text xs i d below a b c first part =
    let front = flat_map text (take i xs) in
    let next = text (get_or xs i d) in
    let rest = flat_map text (drop (i + 1) xs) in
    let all : flat_map text xs ≡ (front ++ next) ++ rest =
    ap (flat_map text) (sym (take-append-drop i xs) ∙ ap (λ l. take i xs ++ l) (drop_more xs i d below))
    ∙ (flat_map-append text (take i xs) (get_or xs i d ∷ drop (i + 1) xs) ∙ sym (append_assoc front next rest)) in
    subst (λ t. TookPart took a t c) (sym all) (took_part-longer a c (front ++ next) rest (took_part-after both a b c front next first part))
