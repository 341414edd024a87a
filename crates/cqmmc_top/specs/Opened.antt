-- An image that was opened.
use Rattle.std.specs.Prelude.{◌≡◌, ◌⊎◌, ◌≤◌, ℕ, ◌+◌, true, length, IfSome}
use Rattle.storage_model.specs.Count.{Rose}
use Rattle.array_edge.specs.Array.{ArrayState}
use Rattle.intent_store.specs.Intent.{Known, IntentStands, IsNoImage, shown_by}
use Rattle.cqmmc_top.specs.declared.refusal.Refusal.{Refusal}
use Rattle.cqmmc_top.specs.declared.refusal.Refusal.TheVariants.{BadImage, ArrayFault, NoPower}

-- the intent store stands on the array, and the power is on
pub record IsOpen (intent : Known) (array : ArrayState) : Type 0 where
  pub stands : IntentStands intent array
  pub few : intent.sectors ≤ 65536
  pub powered : array.powered ≡ true

-- the image at an opening has so many sectors
abbrev pub HasSectors : ArrayState → ℕ → Type 0
HasSectors array sectors = IfSome (shown_by array) (λ base. length base ≡ sectors)

-- why an image isn't opened: its pages are none, the array failed, or eight openings in a row were cut
abbrev pub OpeningRefused : ArrayState → ArrayState → Refusal → Type 0
OpeningRefused old new BadImage = IsNoImage old
OpeningRefused old new ArrayFault = Rose old.faults new.faults
OpeningRefused old new NoPower = (old.cuts.value + 8 ≤ new.cuts.value) ⊎ (new.cuts.stands ≡ true)
OpeningRefused old new _ = ⊥
