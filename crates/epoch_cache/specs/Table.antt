-- Lines in order, each in a slot of its own: the order is a list of slots, of which the first are those of the lines held.
use Rattle.std.specs.Prelude.{◌≡◌, ◌≢◌, ℕ, ◌<◌, ◌≤◌, false, List, [], ◌∷◌, length, map, take, slice_index_or}
use Rattle.std.specs.List.{AllByRecursion}
use Rattle.epoch_cache.specs.declared.line.Line.{Line}

-- lines in order, and how many fit
pub record Table : Type 0 where
  pub lines : List Line
  pub room : ℕ

-- the line in a slot
abbrev pub in_slot : List Line → ℕ → Line
in_slot slots slot = slice_index_or slots slot (record { sector = 0; value = record { 0 = [] }; whole = false; epoch = 0 })

-- the lines held, in order
unfoldable pub lines_of : List Line → List ℕ → ℕ → List Line
lines_of slots order held = take held (map (in_slot slots) order)

-- what is seen of slots, an order and how many lines are held
abbrev pub table_of : List Line → List ℕ → ℕ → Table
table_of slots order held = record { lines = lines_of slots order held; room = length slots }

-- no two are the same
abbrev pub AreApart : List ℕ → Type 0
AreApart [] = Unit {0}
AreApart (slot ∷ order) = AllByRecursion (λ other. slot ≢ other) order × AreApart order

-- the order names each slot once
pub record IsTable (slots : List Line) (order : List ℕ) (held : ℕ) : Type 0 where
  pub size : length order ≡ length slots
  pub enough : held ≤ length order
  pub most : length slots ≤ 65535
  pub within : AllByRecursion (λ slot. slot < length slots) order
  pub apart : AreApart order
