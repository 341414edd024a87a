-- A sector without a put shows what was there before, and which sector is the next that has one.
use Rattle.std.proofs.Common.{◌≡◌, ℕ, ◌+◌, ◌<◌, inl, inr, Bool, true, false, ◌==◌, ◌&&◌, Option, Some, None, MatchOption, List, [], ◌∷◌, ◌++◌, filter, map, length, refl, sym, ap, subst, ◌∙◌, arith}
use Rattle.std.specs.Prelude.{IfSome}
use Rattle.std.specs.List.{list_any}
use Rattle.std.proofs.lemmas.Bool.{cases_Bool, or_parts}
use Rattle.storage_model.proofs.Scans.{early_none}
use Rattle.storage_model.specs.Contents.{bars, before_epoch, numbered, put_all, puts_at, sector_at}
use Rattle.storage_model.specs.declared.block.Block.{Block}
use Rattle.storage_model.specs.declared.marks.Put.{Put}
use Rattle.storage_model.specs.declared.marks.Mark.{Mark}
use Rattle.storage_model.specs.declared.marks.Mark.TheVariants.{Put as PutMark, Bar}
use Rattle.epoch_cache.specs.declared.line.Line.{Line}
use Rattle.array_edge.specs.Array.{ArrayState}
use Rattle.intent_store.specs.Intent.{shown_by}
use Rattle.card_store.proofs.Epochs.{before_epoch-still}
use Rattle.card_store.proofs.Standing.{all_also, is_at-true, none_any}
use Rattle.card_store.proofs.Turning.{inside_base}
use Rattle.card_store.specs.Stands.{LineStands, LinesStand, StandsIn, is_at}
use Rattle.card_store.specs.Store.{Contents, HasSector, IsFirstFrom, Stands, Store, has_put}

-- without a put on a sector no epoch has one
unput : (e s k : ℕ) (marks : List Mark) → has_put s marks ≡ false
    → map (λ q. q.put) (filter (λ q. (q.epoch == e) && (q.put.sector == s)) (numbered k marks)) ≡ []
unput e s k [] none = refl
unput e s k (Bar ∷ marks) none = unput e s (k + 1) marks none
unput e s k (PutMark put ∷ marks) none =
    let parts = or_parts (put.sector == s) (has_put s marks) none in
    elim (cases_Bool (k == e)) [
      | inl now ↦ rw (now, parts.0) (unput e s k marks parts.1)
      | inr then ↦ rw then (unput e s k marks parts.1)
    ]

pub puts_at-unput : (e s : ℕ) (pend : List Mark) → has_put s pend ≡ false → puts_at e s pend ≡ []
unfolding puts_at
puts_at-unput e s pend none = unput e s 0 pend none

no_more : (earlier : List Put) (put : Put) → earlier ++ put ∷ [] ≡ [] → ⊥
no_more [] put e = cc
no_more (first ∷ earlier) put e = cc

-- so no line is on it
unlined : (base : List Block) (pend : List Mark) (last : ℕ) (shown : List Block) (e n f s : ℕ) (line : Line) → has_put s pend ≡ false
    → LineStands base pend last shown e line → is_at n last f s line ≡ true → ⊥
unlined base pend last shown e n f s line none is at =
    let here = (is_at-true n last f s line at).1 in
    let P : ℕ → Type 0 = λ s. puts_at is.epoch s pend ≡ [] in
    no_more is.earlier is.put (sym is.puts ∙ subst P (sym here) (puts_at-unput is.epoch s pend none))

before_none : (base : List Block) (pend : List Mark) → before_epoch 0 base pend ≡ base
unfolding before_epoch
before_none base pend = ap (put_all base) (early_none 0 0 pend (omega arith))

shown_bare : (held : List Line) (last : ℕ) (shown base : List Block) (pend : List Mark) (e s : ℕ) → StandsIn held last shown base pend e
    → s < length base → has_put s pend ≡ false → sector_at shown s ≡ sector_at base s
shown_bare held last shown base pend e s stands inside none =
    let unheld : list_any (is_at (bars pend) last e s) held ≡ false =
    none_any (is_at (bars pend) last e s) held
    (all_also (LineStands base pend last shown e) (λ line. is_at (bars pend) last e s line ≡ true → ⊥) held
    (λ line is. unlined base pend last shown e (bars pend) e s line none is) stands.lines) in
    let first : 0 + (e + 1) ≡ e + 1 = omega arith in
    let still : sector_at (before_epoch (e + 1) base pend) s ≡ sector_at (before_epoch 0 base pend) s =
    subst (λ n. sector_at (before_epoch n base pend) s ≡ sector_at (before_epoch 0 base pend) s) first
    (before_epoch-still 0 (e + 1) base pend s inside (λ g from below. puts_at-unput g s pend none)) in
    stands.bare s inside unheld ∙ still ∙ ap (λ contents. sector_at contents s) (before_none base pend)

lines_bare : (store : Store) (shown : Option (List Block)) (c : Contents) (s : ℕ) → LinesStand store.cache shown c.base c.pend → s < length c.base
    → has_put s c.pend ≡ false → IfSome shown (λ sectors. sector_at sectors s ≡ sector_at c.base s)
lines_bare store None c s stands inside none = tt
lines_bare store (Some shown) c s stands inside none = shown_bare store.cache.lines store.cache.last shown c.base c.pend stands.e s stands.is inside none

pub stands_bare : (store : Store) (array : ArrayState) (c : Contents) (s : ℕ) → Stands c store array → HasSector store s → has_put s c.pend ≡ false
    → IfSome (shown_by array) (λ shown. sector_at shown s ≡ sector_at c.base s)
stands_bare store array c s stands inside none =
    lines_bare store (shown_by array) c s stands.lines (inside_base _ s (length c.base) stands.sectors inside) none

-- what is so of the first sector, by another list that says the same
pub first_of : (has has' : ℕ → Bool) (from end end' : ℕ) (found : Option ℕ) → ((s : ℕ) → s < end → has s ≡ has' s) → end ≡ end'
    → IsFirstFrom has from end found → IsFirstFrom has' from end' found
first_of has has' from end end' None says same none = λ k after below. sym (says k (omega arith)) ∙ none k after (omega arith)
first_of has has' from end end' (Some s) says same first = (
  first.0,
  omega (arith, first.1),
  sym (says s first.1) ∙ first.2,
  λ k after below. let inside = first.1 in sym (says k (omega arith)) ∙ first.3 k after below,
)

pub first_inside : (sectors : Option ℕ) (has : ℕ → Bool) (from end : ℕ) (found : Option ℕ) → sectors ≡ Some end → IsFirstFrom has from end found
    → IfSome found (λ s. MatchOption sectors ⊥ (λ n. s < n))
first_inside sectors has from end None is first = tt
first_inside sectors has from end (Some s) is first =
    let P : Option ℕ → Type 0 = λ o. MatchOption o ⊥ (λ n. s < n) in
    subst P (sym is) first.1
