-- The faults that an array is told beforehand: which call each of them befalls, and what a program leaves then.
use Rattle.std.specs.Prelude.{slice_index_or, length, true, false, ◌≤◌, ◌≡◌, ℕ, ◌+◌, ◌-◌, ◌<◌, ◌^◌, ◌==◌, ◌&&◌, Bool, not, if◌then◌else◌, List, Option, min}
use Rattle.std.specs.Bool.{beq, nat_le}
use Rattle.std.specs.List.{count_by, find}
use Rattle.storage_model.specs.declared.faults.ArrayHit.{ArrayHit}

-- a counter of 64 bits, raised by one
abbrev pub raised : ℕ → ℕ
raised n = min (n + 1) (2 ^ 64 - 1)

-- the fault is one of a fetch (or of a program) with this call number
abbrev pub is_hit : Bool → ℕ → ArrayHit → Bool
is_hit fetch number hit = beq hit.fetch fetch && (hit.n == number)

-- the fault that befalls the fetch (or the program) with this call number
abbrev pub hit_of : List ArrayHit → Bool → ℕ → Option ArrayHit
hit_of hits fetch number = find (is_hit fetch number) hits

-- a fault of such a call, from a valid list
pub record IsValidHit (fetch : Bool) (number : ℕ) (hit : ArrayHit) : Type 0 where
  pub kind : hit.fetch ≡ fetch
  pub called : hit.n ≡ number
  pub small : hit.n < 2 ^ 32
  pub uncut : fetch ≡ true → hit.cut ≡ false

-- a place in the list, before which each fault of a fetch (or of a program) has a smaller number
pub record IsPast (hits : List ArrayHit) (fetch : Bool) (number place : ℕ) : Type 0 where
  pub within : place ≤ length hits
  pub before : (k : ℕ) (none : ArrayHit) → k < place → (slice_index_or hits k none).fetch ≡ fetch → (slice_index_or hits k none).n < number

-- the call that the fault names was made, by how many programs and fetches there were
abbrev pub is_reached : ℕ → ℕ → ArrayHit → Bool
is_reached programs fetches hit = nat_le hit.n (if hit.fetch then fetches else programs)

-- how many failing calls were reached
abbrev pub reached_fails : ℕ → ℕ → List ArrayHit → ℕ
reached_fails programs fetches hits = count_by (λ hit. is_reached programs fetches hit && not hit.cut) hits

-- how many cuts were reached
abbrev pub reached_cuts : ℕ → ℕ → List ArrayHit → ℕ
reached_cuts programs fetches hits = count_by (λ hit. is_reached programs fetches hit && hit.cut) hits

-- how many failing fetches were reached
abbrev pub reached_fetches : ℕ → List ArrayHit → ℕ
reached_fetches fetches hits = count_by (λ hit. nat_le hit.n fetches && hit.fetch) hits
