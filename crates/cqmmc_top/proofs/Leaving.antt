-- The pages that the making of an image leaves at any end of it.
use Rattle.std.proofs.Common.{◌≡◌, inl, inr, ℕ, ◌≤◌, List, [], ◌∷◌, ◌++◌, Option, None, Some, IfSome, Result, Ok, Err, OnOk, OnErr, length, get_or, take, replicate, refl, sym, ◌∙◌, ap, subst, arith}
use Rattle.std.proofs.lemmas.List.{get_or-set_other}
use Rattle.std.proofs.lemmas.Slice.{between_from_start}
use Rattle.std.proofs.Math.Seq.{take-append_seam}
use Rattle.storage_model.specs.Granule.{granule}
use Rattle.storage_model.specs.declared.block.Block.{Block}
use Rattle.array_edge.specs.Array.{IsTorn, with_page}
use Rattle.image_form.specs.declared.superblock.Super.{Super}
use Rattle.image_form.specs.Form.{IsSuper, head_bytes, page_of, super_head}
use Rattle.image_form.specs.Image.{IsImage, sectors_of}
use Rattle.cqmmc_top.specs.Made.{IsCleared, IsLeft, IsZeroImage, zero_block}

abbrev blank : Block
blank = record { 0 = [] }

-- the letters of a superblock begin with no zero
letter : (s : Super) → get_or (super_head s) 0 0 ≡ 67
unfolding super_head head_bytes
letter s = refl

page_letter : (s : Super) → get_or (page_of (super_head s)).0 0 0 ≡ 67
unfolding page_of super_head head_bytes
page_letter s = refl

zero_letter : get_or zero_block.0 0 0 ≡ 0
zero_letter = refl

zero_granule_letter : get_or (granule zero_block 0) 0 0 ≡ 0
unfolding granule
zero_granule_letter = refl

length_head : (s : Super) → length (super_head s) ≡ 64
unfolding super_head head_bytes
length_head s = refl

granule_head : (s : Super) → granule (page_of (super_head s)) 0 ≡ super_head s
unfolding granule page_of
granule_head s =
    between_from_start (super_head s ++ replicate 448 0) 64
    ∙ ap (λ n. take n (super_head s ++ replicate 448 0)) (sym (length_head s)) ∙ take-append_seam (super_head s) (replicate 448 0)

no_zero_super : (s : Super) → IsSuper zero_block s → ⊥
no_zero_super s is =
    let e : 0 ≡ 67 = sym zero_letter ∙ ap (λ (b : Block). get_or b.0 0 0) is.page ∙ page_letter s in
    absurd (omega (arith, e))

module _ (left : Block) (found : Super) (is : IsSuper left found) where
  head_of : granule left 0 ≡ super_head found
  head_of = ap (λ (b : Block). granule b 0) is.page ∙ granule_head found

  -- a superblock doesn't begin with a granule of zeros
  not_zero : granule left 0 ≡ granule zero_block 0 → ⊥
  not_zero same =
      let e : 67 ≡ 0 = sym (letter found) ∙ ap (λ (xs : List ℕ). get_or xs 0 0) (sym head_of ∙ same) ∙ zero_granule_letter in
      absurd (omega (arith, e))

  -- two superblocks with the same first granule are the same
  same_super : (s : Super) → granule left 0 ≡ granule (page_of (super_head s)) 0 → left ≡ page_of (super_head s)
  same_super s same = is.page ∙ ap page_of (sym head_of ∙ same ∙ granule_head s)

pub cleared_first : (least : ℕ) (told new : Option (List Block)) → 1 ≤ least → IfSome told (λ pages. least ≤ length pages) → new ≡ with_page told 0 zero_block → IsCleared new
cleared_first least None new some room is = subst (λ told. IsCleared told) (sym is) tt
cleared_first least (Some []) new some room is = absurd (omega arith)
cleared_first least (Some (first ∷ rest)) new some room is = subst (λ told. IsCleared told) (sym is) refl

pub cleared_other : (page : ℕ) (block : Block) (told new : Option (List Block)) → 1 ≤ page → new ≡ with_page told page block → IsCleared told → IsCleared new
cleared_other page block None new behind is cleared = subst (λ told. IsCleared told) (sym is) tt
cleared_other page block (Some pages) new behind is cleared =
    subst (λ told. IsCleared told) (sym is) (get_or-set_other pages page 0 block blank (λ e. omega arith) ∙ cleared)

pub cleared_torn : (page : ℕ) (block : Block) (told new : Option (List Block)) → 1 ≤ page → IsTorn told page block new → IsCleared told → IsCleared new
cleared_torn page block told new behind torn cleared = cleared_other page torn.left told new behind torn.told cleared

-- a page that is new as a whole is a mix of which each granule is new
pub torn_whole : (page : ℕ) (block : Block) (told new : Option (List Block)) → new ≡ with_page told page block → IsTorn told page block new
torn_whole page block None new is = record { left = block; mix = tt; told = is }
torn_whole page block (Some pages) new is = record { left = block; mix = record { each = λ k below. inr refl }; told = is }

-- nothing was written, or the first page alone
pub left_same : (sectors : ℕ) (told : Option (List Block)) → IsLeft sectors told told
left_same sectors None = tt
left_same sectors (Some pages) = λ image. inl refl

pub left_torn : (sectors : ℕ) (block : Block) (old new : Option (List Block)) → IsTorn old 0 block new → IsLeft sectors old new
left_torn sectors block None new torn = subst (λ told. IsLeft sectors None told) (sym torn.told) tt
left_torn sectors block (Some []) new torn = subst (λ told. IsLeft sectors (Some []) told) (sym torn.told) (λ image. inl refl)
left_torn sectors block (Some (first ∷ rest)) new torn = subst (λ told. IsLeft sectors (Some (first ∷ rest)) told) (sym torn.told) (λ image. inl refl)

-- pages whose first is zeros are no image
pub left_cleared : (sectors : ℕ) (old new : Option (List Block)) → IsCleared new → IsLeft sectors old new
left_cleared sectors old None cleared = tt
left_cleared sectors old (Some pages) cleared = λ image. absurd (no_zero_super _ (subst (λ (b : Block). IsSuper b (record { version = 1; sectors = sectors_of pages })) cleared image.superblock))

-- a new image that is whole
pub left_made : (sectors : ℕ) (old new : Option (List Block)) → IfSome new (IsZeroImage sectors) → IsLeft sectors old new
left_made sectors old None made = tt
left_made sectors old (Some pages) made = λ image. inr made

-- where the superblock itself broke off, it is there or it isn't
pub left_last : (sectors : ℕ) (super : Block) (s : Super) → super ≡ page_of (super_head s) → (old told new : Option (List Block)) → IsCleared told → IfSome (with_page told 0 super) (IsZeroImage sectors) → IsTorn told 0 super new → IsLeft sectors old new
left_last sectors super s form old None new cleared made torn = subst (λ told. IsLeft sectors old told) (sym torn.told) tt
left_last sectors super s form old (Some []) new cleared made torn =
    let e : 0 ≡ 512 = ap (λ (b : Block). length b.0) cleared in absurd (omega (arith, e))
left_last sectors super s form old (Some (first ∷ rest)) new cleared made torn = subst (λ told. IsLeft sectors old told) (sym torn.told) (λ image. inr (whole image))
  where
    whole : IsImage (torn.left ∷ rest) → IsZeroImage sectors (torn.left ∷ rest)
    whole image = elim (torn.mix.each 0 (omega arith)) [
      | inl old ↦ absurd (not_zero torn.left _ image.superblock (old ∙ ap (λ (b : Block). granule b 0) cleared))
      | inr new ↦ subst (λ (b : Block). IsZeroImage sectors (b ∷ rest)) (sym (same_super torn.left _ image.superblock s (new ∙ ap (λ (b : Block). granule b 0) form) ∙ sym form)) made
    ]

pub left_end : {E : Type 0} (sectors : ℕ) (super : Block) (s : Super) → super ≡ page_of (super_head s) → (old told new : Option (List Block)) (result : Result (Unit {0}) E) → IsCleared told → IfSome (with_page told 0 super) (IsZeroImage sectors)
    → OnOk result (new ≡ with_page told 0 super) → OnErr result (IsTorn told 0 super new) → IsLeft sectors old new
left_end sectors super s form old told new (Ok done) cleared made written torn = left_made sectors old new (subst (λ pages. IfSome pages (IsZeroImage sectors)) (sym written) made)
left_end sectors super s form old told new (Err refusal) cleared made written torn = left_last sectors super s form old told new cleared made torn
