-- What a program of a page leaves.
use Rattle.std.proofs.Common.{◌≡◌, ℕ, List, refl, ap, inl, inr}
use Rattle.std.specs.Prelude.{Option, Some, None, IfSome, Ok, Err, is_some}
use Rattle.storage_model.specs.Granule.{IsMix}
use Rattle.storage_model.specs.declared.block.Block.{Block}
use Rattle.array_edge.specs.Array.{with_page, IsTorn, page_at}
use Rattle.intent_store.specs.declared.ends.StoreEnd.{StoreEnd}
use Rattle.intent_store.specs.Steps.{IsWritten}

pub IsMix-new : (old new : Block) → IsMix old new new
IsMix-new old new = record { each = λ k h. inr refl }

pub IsMix-old : (old new : Block) → IsMix old new old
IsMix-old old new = record { each = λ k h. inl refl }

some_mix : (told : Option (List Block)) (page : ℕ) (block : Block) → IfSome told (λ pages. IsMix (page_at pages page) block block)
some_mix None page block = tt
some_mix (Some pages) page block = IsMix-new (page_at pages page) block

pub whole_write : (old new : Option (List Block)) (page : ℕ) (block : Block) → new ≡ with_page old page block
    → IsWritten old page block new (Ok tt)
whole_write old new page block e = record { left = block; mix = some_mix old page block; told = e; whole = refl }

pub torn_write : (old new : Option (List Block)) (page : ℕ) (block : Block) (end : StoreEnd) → IsTorn old page block new
    → IsWritten old page block new (Err end)
torn_write old new page block end torn = record { left = torn.left; mix = torn.mix; told = torn.told; whole = tt }

-- a write makes no page told that was not, and hides none
pub tells_write : (old new : Option (List Block)) (page : ℕ) (block : Block) → new ≡ with_page old page block → is_some new ≡ is_some old
tells_write None new page block e = ap is_some e
tells_write (Some pages) new page block e = ap is_some e

pub tells_torn : (old new : Option (List Block)) (page : ℕ) (block : Block) → IsTorn old page block new → is_some new ≡ is_some old
tells_torn old new page block torn = tells_write old new page torn.left torn.told
