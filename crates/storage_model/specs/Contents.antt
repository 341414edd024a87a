-- Contents, and the marks that a cache holds over them: puts, and the barriers that part the puts into epochs (JESD84-B51, the sections on the cache and its barrier).
use Rattle.std.specs.Prelude.{ℕ, ◌+◌, ◌<◌, ◌==◌, ◌&&◌, nat_lt, ⊤, Bool, List, [], ◌∷◌, length, fold, filter, map, slice_index_or, slice_set}
use Rattle.storage_model.specs.declared.block.Block.{Block}
use Rattle.storage_model.specs.declared.marks.Put.{Put}
use Rattle.storage_model.specs.declared.marks.Mark.{Mark}
use Rattle.storage_model.specs.declared.marks.Mark.TheVariants.{Put as PutMark, Bar}

-- sector s of contents
abbrev pub sector_at : List Block → ℕ → Block
sector_at contents s = slice_index_or contents s (record { 0 = [] })

-- contents after a put
abbrev pub put_on : List Block → Put → List Block
put_on contents put = slice_set contents put.sector put.value

-- contents after a mark
abbrev pub mark_on : List Block → Mark → List Block
mark_on contents (PutMark put) = put_on contents put
mark_on contents Bar = contents

-- contents after all marks, in order
unfoldable pub contents_now : List Block → List Mark → List Block
contents_now base pend = fold mark_on base pend

-- a put's sector is one of the contents
abbrev pub IsWithin : List Block → Mark → Type 0
IsWithin base (PutMark put) = put.sector < length base
IsWithin base Bar = ⊤

-- how many barriers there are; so many and one are the epochs, which are numbered from 0 and may be empty
abbrev pub bars : List Mark → ℕ
bars [] = 0
bars (PutMark put ∷ marks) = bars marks
bars (Bar ∷ marks) = bars marks + 1

-- a put with the number of its epoch
pub record EpochPut : Type 0 where
  pub epoch : ℕ
  pub put : Put

-- the puts, each with its epoch, where the first epoch is e
abbrev pub numbered : ℕ → List Mark → List EpochPut
numbered e [] = []
numbered e (PutMark put ∷ marks) = record { epoch = e; put = put } ∷ numbered e marks
numbered e (Bar ∷ marks) = numbered (e + 1) marks

-- the puts that pass a test, in order
abbrev pub puts_if : (EpochPut → Bool) → List Mark → List Put
puts_if test pend = map (λ q. q.put) (filter test (numbered 0 pend))

-- contents after puts, in order
abbrev pub put_all : List Block → List Put → List Block
put_all contents puts = fold put_on contents puts

-- contents after all epochs before e
unfoldable pub before_epoch : ℕ → List Block → List Mark → List Block
before_epoch e base pend = put_all base (puts_if (λ q. nat_lt q.epoch e) pend)

-- the puts on sector s in epoch e
unfoldable pub puts_at : ℕ → ℕ → List Mark → List Put
puts_at e s pend = puts_if (λ q. (q.epoch == e) && (q.put.sector == s)) pend
