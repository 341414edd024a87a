-- An array over which faults are scripted. Exactly the calls with the listed numbers fail or are cut, and all others go
-- to the inner array.
use Rattle.std.specs.Prelude.{◌≡◌, ◌⊎◌, ℕ, ◌+◌, ◌-◌, ◌<◌, ◌≤◌, ◌^◌, ◌==◌, ◌||◌, Bool, true, false, List, Option, Some, None, Result, Ok, Err, if◌then◌else◌, not, ◌&&◌, min}
use Rattle.storage_model.specs.Faults.{IsValidArrayHits}
use Rattle.storage_model.specs.Granule.{IsMasked}
use Rattle.storage_model.specs.Count.{Count, count_of}
use Rattle.storage_model.specs.declared.block.Block.{Block}
use Rattle.storage_model.specs.declared.faults.ArrayHit.{ArrayHit}
use Rattle.array_edge.specs.Array.{ArrayState, Fetched, Programmed}
use Rattle.array_edge.specs.Hits.{IsPast, IsValidHit, reached_fetches, raised, reached_cuts, reached_fails}
use Rattle.array_edge.specs.declared.array.ArrayEnd.{ArrayEnd}
use Rattle.array_edge.specs.declared.array.ArrayEnd.TheVariants.{Failed, PowerLost}

-- `faults` and `cuts` count the faults that the script itself made, `programs` and `fetches` the calls with the power on.
pub record Script (A : Type 0) : Type 0 where
  pub inner : A
  pub hits : List ArrayHit
  pub powered : Bool
  pub faults : ℕ
  pub cuts : ℕ
  pub programs : ℕ
  pub fetches : ℕ

-- a count with those of a counter of 64 bits
abbrev pub with_more : Count → ℕ → Count
with_more count n = record { value = count.value + n; stands = count.stands || (n == 2 ^ 64 - 1) }

-- what it is as an array, by what the inner one is
abbrev pub script_over : {A : Type 0} → (A → ArrayState) → Script A → ArrayState
script_over state s = record { told = (state s.inner).told; count = (state s.inner).count; powered = s.powered; faults = with_more (state s.inner).faults s.faults; cuts = with_more (state s.inner).cuts s.cuts; programs = count_of s.programs; fetches = count_of s.fetches; settled = (state s.inner).settled }

-- a fetch with the power on, by the fault of its call number
abbrev pub ScriptFetched : {A : Type 0} → (A → ArrayState) → Option ArrayHit → Script A → ℕ → Block → Script A → Result (Unit {0}) ArrayEnd → Type 0
ScriptFetched state None old page block new result =
    Fetched (state old.inner) page block (state new.inner) result × (new ≡ record old { inner = new.inner; fetches = raised old.fetches })
ScriptFetched state (Some hit) old page block new result =
    IsValidHit true (raised old.fetches) hit × (result ≡ Err Failed) × (new ≡ record old { fetches = raised old.fetches; faults = raised old.faults })

-- how a program ends that a fault befalls, by the answer of the inner program
abbrev pub end_of_hit : ArrayHit → Result (Unit {0}) ArrayEnd → Result (Unit {0}) ArrayEnd
end_of_hit hit (Ok _) = Err (if hit.cut then PowerLost else Failed)
end_of_hit hit (Err end) = Err end

-- the fault is counted where the inner program went well
abbrev pub after_hit : {A : Type 0} → ArrayHit → Result (Unit {0}) ArrayEnd → Script A → Script A
after_hit hit (Ok _) s = record s { powered = not hit.cut && s.powered; faults = (if hit.cut then s.faults else raised s.faults); cuts = (if hit.cut then raised s.cuts else s.cuts) }
after_hit hit (Err end) s = s

-- The fault of a program is that the page is read and programmed with the granules of the mask new. `seen` is what was
-- read, `between` the inner array after that.
pub record IsBroken {A : Type 0} (state : A → ArrayState) (hit : ArrayHit) (old : Script A) (page : ℕ) (block : Block) (new : Script A) (result : Result (Unit {0}) ArrayEnd) : Type 0 where
  pub seen : Block
  pub left : Block
  pub between : ArrayState
  pub answer : Result (Unit {0}) ArrayEnd
  pub fetched : Fetched (state old.inner) page seen between (Ok tt)
  pub masked : IsMasked hit.mask seen block left
  pub programmed : Programmed between page left (state new.inner) answer
  pub ended : result ≡ end_of_hit hit answer
  pub after : new ≡ after_hit hit answer (record old { inner = new.inner; powered = (state new.inner).powered })

-- the page could not be read
pub record IsUnread {A : Type 0} (state : A → ArrayState) (old : Script A) (page : ℕ) (new : Script A) (result : Result (Unit {0}) ArrayEnd) : Type 0 where
  pub seen : Block
  pub fetched : Fetched (state old.inner) page seen (state new.inner) result
  pub failed : result ≡ Err Failed
  pub after : new ≡ record old { inner = new.inner }

-- a program with the power on, by the fault of its call number
abbrev pub ScriptProgrammed : {A : Type 0} → (A → ArrayState) → Option ArrayHit → Script A → ℕ → Block → Script A → Result (Unit {0}) ArrayEnd → Type 0
ScriptProgrammed state None old page block new result =
    Programmed (state old.inner) page block (state new.inner) result × (new ≡ record old { inner = new.inner; powered = (state new.inner).powered; programs = raised old.programs })
ScriptProgrammed state (Some hit) old page block new result =
    IsUnread state (record old { programs = raised old.programs }) page new result ⊎ IsBroken state hit (record old { programs = raised old.programs }) page block new result

-- the script made no more faults than it reached
pub record IsWithinHits (hits : List ArrayHit) (faults cuts programs fetches : ℕ) : Type 0 where
  pub faults_made : faults ≤ reached_fails programs fetches hits
  pub cuts_made : cuts ≤ reached_cuts programs fetches hits

-- a fault that was reached and is not counted yet
pub record HasRoom (hit : ArrayHit) (hits : List ArrayHit) (faults cuts programs fetches : ℕ) : Type 0 where
  pub fails : hit.cut ≡ false → faults < reached_fails programs fetches hits
  pub cut : hit.cut ≡ true → cuts < reached_cuts programs fetches hits

-- what every script keeps
pub record IsKept (inner : ArrayState) (hits : List ArrayHit) (powered : Bool) (program_place fetch_place faults cuts programs fetches : ℕ) : Type 0 where
  pub valid : IsValidArrayHits hits
  pub within : IsWithinHits hits faults cuts programs fetches
  pub power : powered ≡ true → inner.powered ≡ true
  pub past_programs : IsPast hits false programs program_place
  pub past_fetches : IsPast hits true fetches fetch_place

-- How far the calls came, by what the inner array was when they began. Where no count of it stands, they made no more
-- programs than its programs and faults rose, and no more fetches than its fetches rose and fetches of the list failed.
pub record HasRun (start now : ArrayState) (hits : List ArrayHit) (programs fetches : ℕ) : Type 0 where
  pub by_programs : now.programs.stands ≡ false → now.faults.stands ≡ false → start.programs.value + start.faults.value + programs ≤ now.programs.value + now.faults.value
  pub by_fetches : now.fetches.stands ≡ false → start.fetches.value + fetches ≤ now.fetches.value + reached_fetches fetches hits

-- Which faults the script made, by what the inner array was when the calls began. Where the inner array neither failed nor was
-- cut since, and no count stands, the script made exactly those that were reached.
pub record HasMet (start now : ArrayState) (hits : List ArrayHit) (faults cuts programs fetches : ℕ) : Type 0 where
  pub valid : IsValidArrayHits hits
  pub faults_later : start.faults.value ≤ now.faults.value
  pub cuts_later : start.cuts.value ≤ now.cuts.value
  pub exact : now.faults.value ≡ start.faults.value → now.faults.stands ≡ false → now.cuts.value ≡ start.cuts.value → now.cuts.stands ≡ false
      → (faults ≡ min (reached_fails programs fetches hits) (2 ^ 64 - 1)) × (cuts ≡ min (reached_cuts programs fetches hits) (2 ^ 64 - 1))
