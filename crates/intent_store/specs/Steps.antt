-- Words of the steps that make up the calls of an intent store.
use Rattle.std.specs.Prelude.{◌≡◌, ◌≤◌, ℕ, ◌+◌, ◌==◌, List, Option, Some, None, IfSome, MatchOption, Result, Ok, Err, OnOk, option_map, slice_set, if◌then◌else◌}
use Rattle.std.specs.Option.{ForSome}
use Rattle.storage_model.specs.Granule.{IsMix}
use Rattle.storage_model.specs.declared.block.Block.{Block}
use Rattle.array_edge.specs.Array.{ArrayState, with_page}
use Rattle.image_form.specs.declared.gate.Gate.{Gate}
use Rattle.image_form.specs.declared.gate.Gate.TheVariants.{Shut, Ajar}
use Rattle.image_form.specs.Form.{IsSuper, IsGate, gate_number}
use Rattle.image_form.specs.Image.{shown, page_at}
use Rattle.intent_store.specs.declared.ends.StoreEnd.{StoreEnd}
use Rattle.intent_store.specs.Intent.{Known}

-- the page that a sector is read from
abbrev pub place_of : Gate → ℕ → ℕ
place_of Shut sector = 8 + sector
place_of (Ajar ajar) sector = if ajar == sector then 2 else 8 + sector

-- the gate that a block is, for an image of so many sectors; a block that is none counts as shut
pub record GateIn (block : Block) (sectors : ℕ) (gate : Gate) : Type 0 where
  pub is : (found : Gate) → IsGate block sectors found → gate ≡ found
  pub none : ((found : Gate) → IsGate block sectors found → ⊥) → gate ≡ Shut

-- A page was written: whole where the call ended well, and else each of its granules is old or new.
pub record IsWritten (old : Option (List Block)) (page : ℕ) (block : Block) (new : Option (List Block)) (result : Result (Unit {0}) StoreEnd) : Type 0 where
  pub left : Block
  pub mix : IfSome old (λ pages. IsMix (page_at pages page) block left)
  pub told : new ≡ with_page old page left
  pub whole : OnOk result (left ≡ block)

-- what is known once the gate was programmed: it, or nothing where that failed
abbrev pub after_gate : ℕ → Gate → Result (Unit {0}) StoreEnd → Known
after_gate sectors gate (Ok done) = record { sectors = sectors; gate = Some gate }
after_gate sectors gate (Err end) = record { sectors = sectors; gate = None }

-- the number of sectors and the gate are within the limits of an image
pub record IsInRange (sectors : ℕ) (gate : Option Gate) : Type 0 where
  pub some : 1 ≤ sectors
  pub most : sectors ≤ 65536
  pub within : ForSome gate (λ gate. gate_number gate ≤ sectors)

-- the page of the sector for which the gate is ajar is what the intent page is
abbrev pub IsMoved : Option Gate → Option (List Block) → Type 0
IsMoved (Some (Ajar sector)) told = IfSome told (λ pages. page_at pages (8 + sector) ≡ page_at pages 2)
IsMoved _ told = Unit {0}

-- the sectors shown, with the intent page in place of one
abbrev pub with_intent : Option (List Block) → ℕ → Option (List Block)
with_intent told sector = option_map (λ pages. slice_set (shown pages) sector (page_at pages 2)) told

abbrev pub intent_by : ArrayState → Option Block
intent_by array = option_map (λ pages. page_at pages 2) array.told

-- Two pages are the superblock and the gate of an image of which this is known, and there are enough pages.
pub record IsOpening (first second : Block) (count : ℕ) (known : Known) : Type 0 where
  pub superblock : IsSuper first (record { version = 1; sectors = known.sectors })
  pub gate : MatchOption known.gate ⊥ (IsGate second known.sectors)
  pub room : 8 + known.sectors ≤ count
