-- A put goes into a cache.
use Rattle.std.proofs.Common.{◌≡◌, ℕ, ◌<◌, inl, inr, if◌then◌else◌, Option, Some, None, List, [], ◌∷◌, ◌++◌, length, map, sym, subst}
use Rattle.std.proofs.lemmas.Bool.{cases_Bool}
use Rattle.std.specs.List.{list_any}
use Rattle.storage_model.specs.declared.block.Block.{Block}
use Rattle.storage_model.specs.declared.marks.Put.{Put}
use Rattle.storage_model.specs.declared.marks.Mark.{Mark}
use Rattle.storage_model.specs.declared.marks.Mark.TheVariants.{Put as PutMark}
use Rattle.epoch_cache.specs.declared.line.Line.{Line}
use Rattle.epoch_cache.specs.Cache.{Cache, is_of, lines_with, new_line, renewed}
use Rattle.epoch_cache.proofs.TableSteps.{all_more}
use Rattle.card_store.proofs.Putting.{stands_put}
use Rattle.card_store.specs.Stands.{AreWithin, LinesStand, StandsAt}

renewed_within : (last sectors : ℕ) (put : Put) (lines : List Line) → AreWithin sectors lines → AreWithin sectors (map (λ line. if is_of last put.sector line then renewed put line else line) lines)
renewed_within last sectors put [] within = tt
renewed_within last sectors put (line ∷ lines) within = elim (cases_Bool (is_of last put.sector line)) [
  | inl here ↦ rw here (within.0, renewed_within last sectors put lines within.1)
  | inr gone ↦ rw gone (within.0, renewed_within last sectors put lines within.1)
]

lines_within : (last sectors : ℕ) (put : Put) (lines : List Line) → AreWithin sectors lines → put.sector < sectors → AreWithin sectors (lines_with last put lines)
unfolding lines_with
lines_within last sectors put lines within inside = elim (cases_Bool (list_any (is_of last put.sector) lines)) [
  | inl some ↦ rw some (renewed_within last sectors put lines within)
  | inr none ↦ rw none (all_more (λ (line : Line). line.sector < sectors) lines (new_line last put) within inside)
]

pub within_put : (old new : Cache) (put : Put) (sectors : ℕ) → new ≡ record old { lines = lines_with old.last put old.lines } → AreWithin sectors old.lines → put.sector < sectors → AreWithin sectors new.lines
within_put old new put sectors is within inside = subst (λ (cache : Cache). AreWithin sectors cache.lines) (sym is) (lines_within old.last sectors put old.lines within inside)

pub placed : (old new : Cache) (put : Put) (shown : Option (List Block)) (base : List Block) (pend : List Mark) → new ≡ record old { lines = lines_with old.last put old.lines } → put.sector < length base
    → LinesStand old shown base pend → LinesStand new shown base (pend ++ PutMark put ∷ [])
placed old new put None base pend is inside stands = tt
placed old new put (Some shown) base pend is inside stands =
    subst (λ (cache : Cache). StandsAt cache base (pend ++ PutMark put ∷ []) shown) (sym is) (record { e = stands.e; is = stands_put old.lines old.last shown base pend stands.e put inside stands.is })
