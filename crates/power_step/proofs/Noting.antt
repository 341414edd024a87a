-- The pending sectors of a store, one after the other.
use Rattle.std.proofs.Common.{◌≡◌, ◌∙◌, ◌++◌, ◌∷◌, ◌+◌, ◌<◌, ◌≤◌, ℕ, suc, true, false, List, [], None, Some, ap, sym, arith}
use Rattle.card_store.specs.Store.{IsFirstFrom, has_put as has_put_there}
use Rattle.dark_laws.proofs.Pages.{same_put}
use Rattle.left_laws.proofs.Sectors.{sectors_put, sectors_skip, steady}
use Rattle.left_laws.specs.Lines.{has_put, put_sectors}
use Rattle.storage_model.specs.declared.marks.Mark.{Mark}

none_between : (pend : List Mark) (from to : ℕ) → from ≤ to → ((k : ℕ) → from ≤ k → k < to → has_put_there k pend ≡ false) → put_sectors pend to ≡ put_sectors pend from
none_between pend from to above none = steady (put_sectors pend) from to above (λ k low high. sectors_skip pend k (sym (same_put k pend) ∙ none k low high))

pub noted_next : (pend : List Mark) (items : List ℕ) (from sector end : ℕ) → items ≡ put_sectors pend from → IsFirstFrom (λ s. has_put_there s pend) from end (Some sector)
    → (items ++ sector ∷ [] ≡ put_sectors pend (sector + 1)) × (sector + 1 ≤ end)
noted_next pend items from sector end are first =
    let below = first.1 in
    let more : suc sector ≡ sector + 1 = omega arith in
    let put : has_put sector pend ≡ true = sym (same_put sector pend) ∙ first.2 in (
      ap (λ xs. xs ++ sector ∷ []) (are ∙ sym (none_between pend from sector first.0 first.3)) ∙ (sym (sectors_put pend sector put) ∙ ap (put_sectors pend) more),
      omega (arith, below),
    )

pub noted_all : (pend : List Mark) (items : List ℕ) (from end : ℕ) → items ≡ put_sectors pend from → from ≤ end → IsFirstFrom (λ s. has_put_there s pend) from end None → items ≡ put_sectors pend end
noted_all pend items from end are above none = are ∙ sym (none_between pend from end above none)
