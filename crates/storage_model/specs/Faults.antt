-- Fault texts as a run may be given them: numbers are within their limits and rise, so that no call has two faults.
use Rattle.std.specs.Prelude.{◌≡◌, ℕ, ◌^◌, ◌<◌, ◌≤◌, true, false, List, All, AllPairs}
use Rattle.storage_model.specs.declared.faults.ArrayHit.{ArrayHit}
use Rattle.storage_model.specs.declared.faults.BusKind.{BusKind}
use Rattle.storage_model.specs.declared.faults.BusKind.TheVariants.{Bad}
use Rattle.storage_model.specs.declared.faults.Faults.{Faults}
use Rattle.storage_model.specs.declared.faults.Hit.{Hit}

-- each number is below all that stand behind it
abbrev pub AreRising : List ℕ → Type 0
AreRising numbers = AllPairs (λ n later. n < later) numbers

-- data fails at a block from 1 to 1,024
abbrev pub IsKind : BusKind → Type 0
IsKind (Bad block) = (1 ≤ block) × (block ≤ 1024)
IsKind _ = Unit {0}

-- A command's number is from 1 to 2 ^ 32 - 2. The next one is where the count of commands stays, so no fault is there.
abbrev pub IsHit : Hit → Type 0
IsHit hit = (1 ≤ hit.n) × (hit.n ≤ 4294967294) × IsKind hit.kind

-- the numbers of bus faults rise
abbrev pub IsValidHits : List Hit → Type 0
IsValidHits hits = AllPairs (λ hit later. hit.n < later.n) hits

-- The numbers are from 1 to 2 ^ 32 - 1 and rise among the fetches and among the programs, no fetch is cut, and a mask names 8 granules.
pub record IsValidArrayHits (hits : List ArrayHit) : Type 0 where
  pub numbers : All (λ hit. (1 ≤ hit.n) × (hit.n < 2 ^ 32)) hits
  pub rising : AllPairs (λ hit later. hit.fetch ≡ later.fetch → hit.n < later.n) hits
  pub uncut : All (λ hit. hit.fetch ≡ true → hit.cut ≡ false) hits
  pub masks : All (λ hit. hit.mask < 2 ^ 8) hits

-- all faults of a text
pub record AreValid (faults : Faults) : Type 0 where
  pub hits : All IsHit faults.bus
  pub bus : IsValidHits faults.bus
  pub array : IsValidArrayHits faults.array
  pub cuts : AreRising faults.cuts
