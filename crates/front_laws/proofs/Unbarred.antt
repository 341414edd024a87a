-- A barrier at the end of the marks allows nothing new.
use Rattle.std.proofs.Common.{◌≡◌, ℕ, ◌<◌, inl, inr, true, List, [], ◌∷◌, ◌++◌, length, refl, sym, ◌∙◌, arith}
use Rattle.std.proofs.Math.Bool.{or-false}
use Rattle.storage_model.proofs.Appends.{length-contents_now}
use Rattle.storage_model.proofs.Cuts.{is_left-at, is_left-from, is_left_in-at, is_left_in-from}
use Rattle.storage_model.proofs.Latest.{mix_at-now}
use Rattle.storage_model.proofs.Splits.{barriers}
use Rattle.storage_model.specs.Contents.{bars, before_epoch, contents_now, puts_at, sector_at}
use Rattle.storage_model.specs.Left.{is_left, is_mix, mix_at}
use Rattle.storage_model.specs.declared.block.Block.{Block}
use Rattle.storage_model.specs.declared.marks.Mark.{Mark}
use Rattle.storage_model.specs.declared.marks.Mark.TheVariants.{Bar}

mix_at-alone : (base : List Block) (e s : ℕ) (w : Block) → mix_at base [] e s w ≡ is_mix (sector_at base s ∷ []) w
unfolding mix_at before_epoch puts_at
mix_at-alone base e s w = or-false (is_mix (sector_at base s ∷ []) w)

-- where all in front of the barrier is whole
whole_left : (base : List Block) (pend : List Mark) (after : List Block) → is_left (contents_now base pend) [] after ≡ true → is_left base pend after ≡ true
whole_left base pend after h =
    let found = is_left-at (contents_now base pend) [] after h in
    is_left-from base pend after (bars pend) (omega arith) (is_left_in-from base pend after (bars pend)
    (λ s inside. mix_at-now base pend s (sector_at after s) inside
    (sym (mix_at-alone (contents_now base pend) found.0 s (sector_at after s))
    ∙ is_left_in-at (contents_now base pend) [] after found.0 s found.2 (rw (length-contents_now base pend) inside))))

pub is_left-unbarred : (base : List Block) (pend : List Mark) (after : List Block) → is_left base (pend ++ Bar ∷ []) after ≡ true → is_left base pend after ≡ true
is_left-unbarred base pend after h = elim (barriers base (pend ++ Bar ∷ []) after h pend [] refl) [
  | inl one ↦ one
  | inr other ↦ whole_left base pend after other
]
