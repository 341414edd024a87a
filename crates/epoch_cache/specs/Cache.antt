-- A cache as the list of its lines, in order of epoch and then of coming to be (JESD84-B51, the cache and its barrier).
use Rattle.std.specs.Prelude.{◌≡◌, ℕ, ◌+◌, ◌<◌, ◌≤◌, ◌==◌, Bool, ◌&&◌, ◌||◌, if◌then◌else◌, List, [], ◌∷◌, ◌++◌, Option, Some, None, length, fold, map, true, slice_index_or}
use Rattle.std.specs.List.{AllByRecursion, list_any}
use Rattle.storage_model.specs.declared.block.Block.{Block}
use Rattle.storage_model.specs.declared.marks.Put.{Put}
use Rattle.epoch_cache.specs.declared.line.Line.{Line}

-- lines, the last epoch, and how many lines fit
pub record Cache : Type 0 where
  pub lines : List Line
  pub last : ℕ
  pub room : ℕ

-- a line is that of a sector in an epoch
abbrev pub is_of : ℕ → ℕ → Line → Bool
is_of e s line = (line.epoch == e) && (line.sector == s)

-- line k passes the test
pub record IsPlace (test : Line → Bool) (lines : List Line) (k : ℕ) : Type 0 where
  pub within : k < length lines
  pub passes : (d : Line) → test (slice_index_or lines k d) ≡ true

-- the line of a put that finds none
abbrev pub new_line : ℕ → Put → Line
new_line e put = record { sector = put.sector; value = put.value; whole = put.reliable; epoch = e }

-- a line with a put's value at its place; once whole it stays whole
abbrev pub renewed : Put → Line → Line
renewed put line = record line { value = put.value; whole = line.whole || put.reliable }

-- the lines after a put in epoch e: the sector's line of that epoch is renewed, or there is a new one at the end
unfoldable pub lines_with : ℕ → Put → List Line → List Line
lines_with e put lines =
    if list_any (is_of e put.sector) lines
    then map (λ line. if is_of e put.sector line then renewed put line else line) lines
    else lines ++ new_line e put ∷ []

-- the value of the last line of a sector
unfoldable pub newest_of : ℕ → List Line → Option Block
newest_of s lines = fold (λ found line. if line.sector == s then Some line.value else found) None lines

-- the epoch after a barrier; there is none after the last that has a number
abbrev pub next_epoch : ℕ → ℕ
next_epoch last = if last == 4294967295 then last else last + 1

-- a line is in front of another: its epoch is no later, and earlier where they are of the same sector
pub record IsBefore (line other : Line) : Type 0 where
  pub epoch : line.epoch ≤ other.epoch
  pub sector : line.sector ≡ other.sector → line.epoch < other.epoch

-- each line is in front of those behind it; so there is at most one of a sector in an epoch
abbrev pub AreInOrder : List Line → Type 0
AreInOrder [] = Unit {0}
AreInOrder (line ∷ lines) = AllByRecursion (IsBefore line) lines × AreInOrder lines

-- what is so of every cache
pub record IsCache (cache : Cache) : Type 0 where
  pub order : AreInOrder cache.lines
  pub past : AllByRecursion (λ line. line.epoch ≤ cache.last) cache.lines
  pub fits : length cache.lines ≤ cache.room
  pub last : cache.last ≤ 4294967295
