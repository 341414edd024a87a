-- Where the newest line of each sector stands, kept beside the lines: lines are numbered in order as they come, the first of
-- those held has the number `first`, and a map has the number of each sector's newest line. Where that is less than `first`,
-- the line went.
use Rattle.std.specs.Prelude.{◌≡◌, ◌≢◌, ℕ, Bool, false, ◌+◌, ◌-◌, ◌*◌, ◌^◌, ◌<◌, ◌≤◌, List, length, Option, None, Some, if◌then◌else◌, nat_eq, nat_lt, slice_index_or}
use Rattle.std.specs.declared.hash.FoldHasher.{FoldHasher}
use Rattle.std.specs.declared.hash.BuildHasherDefault.{BuildHasherDefault}
use Rattle.indexmap.specs.IndexMap.{IndexMap, get, index_map_len, spare}
use Rattle.epoch_cache.specs.declared.line.Line.{Line}

-- the number of each sector's newest line
abbrev pub Places : Type 0
Places = IndexMap ℕ ℕ (BuildHasherDefault FoldHasher)

-- the place in order of a line by its number, where it is held
abbrev pub place_from : (first : ℕ) → Option ℕ → Option ℕ
place_from first None = None
place_from first (Some number) = if nat_lt number first then None else Some (number - first)

abbrev pub place_in : Places → (first s : ℕ) → Option ℕ
place_in places first s = place_from first (get nat_eq places s)

-- line p is the last of its sector
pub record IsLastOf (lines : List Line) (s p : ℕ) : Type 0 where
  pub within : p < length lines
  pub here : (d : Line) → (slice_index_or lines p d).sector ≡ s
  pub behind : (k : ℕ) (d : Line) → p < k → k < length lines → (slice_index_or lines k d).sector ≢ s

-- the last line of a sector stands at a place, or it has none
pub record IsNewest (lines : List Line) (s : ℕ) (place : Option ℕ) : Type 0 where
  pub none : place ≡ None → (k : ℕ) (d : Line) → k < length lines → (slice_index_or lines k d).sector ≢ s
  pub some : (p : ℕ) → place ≡ Some p → IsLastOf lines s p

-- each sector's last line is found
abbrev pub AreFound : List Line → Places → (first : ℕ) → Type 0
AreFound lines places first = (s : ℕ) → IsNewest lines s (place_in places first s)

-- each sector's last line is found, unless a line went from between others since all were numbered; more sectors fit than lines,
-- and there are numbers left
pub record AreMarked (lines : List Line) (room : ℕ) (places : Places) (first : ℕ) (stale : Bool) : Type 0 where
  pub found : stale ≡ false → AreFound lines places first
  pub roomy : 2 * room ≤ index_map_len places + spare places
  pub few : first + length lines ≤ 2 ^ 63 + 65535
