-- What a loss of power leaves, in words of its own: no granule is older than the contents that were kept, a barrier holds, and a reliable write is whole.
use Rattle.std.specs.Prelude.{◌≡◌, ℕ, ◌+◌, ◌<◌, ◌⊎◌, Bool, true, List, ◌∷◌, ◌++◌, Contains, length}
use Rattle.storage_model.specs.Contents.{bars, contents_now, put_on, sector_at}
use Rattle.storage_model.specs.Granule.{granule}
use Rattle.storage_model.specs.Left.{is_left, mix_at, some_below}
use Rattle.storage_model.specs.declared.block.Block.{Block}
use Rattle.storage_model.specs.declared.block.TheConstants.{GRANULES}
use Rattle.storage_model.specs.declared.marks.Put.{Put}
use Rattle.storage_model.specs.declared.marks.Mark.{Mark}
use Rattle.storage_model.specs.declared.marks.Mark.TheVariants.{Put as PutMark, Bar}

-- v is the kept value of sector s, or that of a put
abbrev pub IsValueOf : List Block → List Mark → ℕ → Block → Type 0
IsValueOf base pend s v = (v ≡ sector_at base s) ⊎ ((put : Put) × Contains pend (PutMark put) × (put.sector ≡ s) × (v ≡ put.value))

-- each granule is the kept one or a later one
abbrev pub IsKeptOrLater : List Block → List Mark → List Block → Type 0
IsKeptOrLater base pend after = (s g : ℕ) → s < length base → g < GRANULES → (v : Block) × IsValueOf base pend s v × (granule (sector_at after s) g ≡ granule v g)

-- at a barrier: nothing behind it is left, or all in front of it is whole
abbrev pub KeepsBarriers : List Block → List Mark → List Block → Type 0
KeepsBarriers base pend after = (front behind : List Mark) → pend ≡ front ++ Bar ∷ behind → (is_left base front after ≡ true) ⊎ (is_left (contents_now base front) behind after ≡ true)

-- w may be left of sector s
abbrev pub is_left_of : List Block → List Mark → ℕ → Block → Bool
is_left_of base pend s w = some_below (bars pend + 1) (λ e. mix_at base pend e s w)

-- at a reliable put: of its sector is left what may be without it, or what may be once it is whole
abbrev pub KeepsReliable : List Block → List Mark → List Block → Type 0
KeepsReliable base pend after = (front behind : List Mark) (put : Put) → pend ≡ front ++ PutMark put ∷ behind → put.reliable ≡ true → put.sector < length base
    → (is_left_of base front put.sector (sector_at after put.sector) ≡ true) ⊎ (is_left_of (put_on (contents_now base front) put) behind put.sector (sector_at after put.sector) ≡ true)
