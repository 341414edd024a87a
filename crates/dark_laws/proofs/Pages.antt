-- What the array shows when power is lost may be left.
use Rattle.std.proofs.Common.{◌≡◌, ◌∙◌, ℕ, ◌<◌, ◌==◌, ◌||◌, inl, inr, true, false, Option, Some, None, IfSome, MatchOption, List, [], ◌∷◌, length, refl, ap, sym, subst, arith}
use Rattle.std.proofs.lemmas.Bool.{cases_lt}
use Rattle.std.proofs.lemmas.List.{get_or_past}
use Rattle.array_edge.specs.Array.{ArrayState}
use Rattle.card_store.proofs.Bare.{stands_bare}
use Rattle.card_store.proofs.Turning.{lines_left}
use Rattle.card_store.specs.Stands.{LinesStand}
use Rattle.card_store.specs.Store.{HasSector, Stands, Store, has_put as has_put_there}
use Rattle.cut_order.specs.Order.{OrderState}
use Rattle.intent_store.specs.Intent.{shown_by}
use Rattle.left_laws.specs.Lines.{CanBeLeft, has_put}
use Rattle.storage_machine.specs.declared.state.State.{State}
use Rattle.storage_model.specs.Contents.{sector_at}
use Rattle.storage_model.specs.Left.{is_left}
use Rattle.storage_model.specs.declared.block.Block.{Block}
use Rattle.storage_model.specs.declared.marks.Mark.{Mark}
use Rattle.storage_model.specs.declared.marks.Mark.TheVariants.{Put as PutMark, Bar}
use Rattle.dark_laws.specs.Laws.{ArePagesLeft}
use Rattle.world_state.specs.Path.{PathState}

-- both ask the same of a sector
pub same_put : (k : ℕ) (pend : List Mark) → has_put_there k pend ≡ has_put k pend
same_put k [] = refl
same_put k (Bar ∷ pend) = same_put k pend
same_put k (PutMark put ∷ pend) = ap (λ b. (put.sector == k) || b) (same_put k pend)

-- a sector without a put is as it was kept, and past the end there is none
module _ (store : Store) (a : ArrayState) (base : List Block) (pend : List Mark) (stands : Stands (record { base = base; pend = pend }) store a) where
  inside : (k : ℕ) → k < length base → HasSector store k
  inside k few = let P : Option ℕ → Type 0 = λ o. MatchOption o ⊥ (λ n. k < n) in subst P (sym stands.sectors) few

  rest_by : (after : List Block) → shown_by a ≡ Some after → length after ≡ length base → (k : ℕ) → has_put k pend ≡ false → sector_at after k ≡ sector_at base k
  rest_by after is long k none = elim (cases_lt k (length base)) [
    | inl few ↦ subst (λ shown. IfSome shown (λ pages. sector_at pages k ≡ sector_at base k)) is (stands_bare store a (record { base = base; pend = pend }) k stands (inside k few) (same_put k pend ∙ none))
    | inr past ↦ get_or_past after k _ (omega (arith, past, long)) ∙ sym (get_or_past base k _ past)
  ]

  can_by : (shown : Option (List Block)) → shown_by a ≡ shown → LinesStand store.cache shown base pend → IfSome shown (λ pages. is_left base pend pages ≡ true) → IfSome shown (CanBeLeft base pend)
  can_by None is lines left = tt
  can_by (Some after) is lines left = record { size = lines.is.sectors; rest = rest_by after is lines.is.sectors; left = left }

pub pages_left : (s : State) (p : PathState) (o : OrderState) (a : ArrayState) → ArePagesLeft s p o a
pages_left s p o a losing =
    can_by p.card.store a s.base s.pend losing.store (shown_by a) refl losing.store.lines (lines_left p.card.store.cache (shown_by a) s.base s.pend losing.store.lines)
