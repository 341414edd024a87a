-- A new image, and why none was made.
use Rattle.std.specs.Prelude.{◌≡◌, ◌⊎◌, ℕ, ◌+◌, ◌<◌, ◌≤◌, true, List, length, replicate, Option, Some, None, IfErr, IfSome, OnOk, Result, drop}
use Rattle.storage_model.specs.Count.{Later, Rose}
use Rattle.storage_model.specs.declared.block.Block.{Block}
use Rattle.array_edge.specs.Array.{ArrayState, page_at}
use Rattle.image_form.specs.Image.{IsImage, gate_at, sectors_of, shown}
use Rattle.image_form.specs.declared.gate.Gate.TheVariants.{Shut}
use Rattle.cqmmc_top.specs.declared.refusal.Refusal.{Refusal}
use Rattle.cqmmc_top.specs.declared.refusal.Refusal.TheVariants.{BadImage, ArrayFault, NoPower}

abbrev pub zero_block : Block
zero_block = record { 0 = replicate 512 0 }

-- the pages are an image of so many sectors, its gate is shut, it shows zeros, and so are the pages between gate and sectors
pub record IsZeroImage (sectors : ℕ) (pages : List Block) : Type 0 where
  pub image : IsImage pages
  pub count : sectors_of pages ≡ sectors
  pub shut : gate_at pages ≡ Shut
  pub unused : (page : ℕ) → 2 ≤ page → page < 8 → page_at pages page ≡ zero_block
  pub zeros : shown pages ≡ replicate sectors zero_block

-- the pages from `first` up to `last` are zeros, and those before as they were
pub record IsBlanked (first last : ℕ) (old new : List Block) : Type 0 where
  pub long : length new ≡ length old
  pub blank : (page : ℕ) → first ≤ page → page < last → page_at new page ≡ zero_block
  pub before : (page : ℕ) → page < first → page_at new page ≡ page_at old page

abbrev pub Blanked : ℕ → ℕ → Option (List Block) → Option (List Block) → Type 0
Blanked first last (Some old) (Some new) = IsBlanked first last old new
Blanked first last None None = Unit {0}
Blanked first last old new = ⊥

-- the array failed, or was cut
abbrev pub CallRefused : ArrayState → ArrayState → Refusal → Type 0
CallRefused old new ArrayFault = Rose old.faults new.faults
CallRefused old new NoPower = Rose old.cuts new.cuts
CallRefused old new _ = ⊥

-- calls of the array, with the power on until one is cut
pub record Makes (old new : ArrayState) (result : Result (Unit {0}) Refusal) : Type 0 where
  pub count : new.count ≡ old.count
  pub powered : OnOk result (new.powered ≡ true)
  pub faults : Later old.faults new.faults
  pub cuts : Later old.cuts new.cuts
  pub refused : IfErr result (CallRefused old new)

-- why no image was made: the array has too few pages, and is left as it was, or it has enough of them, and failed or was cut
abbrev pub MakingRefused : ℕ → ArrayState → ArrayState → Refusal → Type 0
MakingRefused sectors old new BadImage = (old.count < 8 + sectors) × (new ≡ old)
MakingRefused sectors old new refusal = (8 + sectors ≤ old.count) × CallRefused old new refusal

-- the first page is zeros
abbrev pub IsCleared : Option (List Block) → Type 0
IsCleared told = IfSome told (λ pages. page_at pages 0 ≡ zero_block)

-- Where no image was made, the pages are no image, or those behind the first are as they were, or the new image is whole.
abbrev pub IsLeft : ℕ → Option (List Block) → Option (List Block) → Type 0
IsLeft sectors old new = IfSome new (λ pages. IsImage pages → IfSome old (λ before. drop 1 pages ≡ drop 1 before) ⊎ IsZeroImage sectors pages)
