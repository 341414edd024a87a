-- What a call of a sink takes.
use Rattle.std.specs.Prelude.{◌≡◌, ℕ, ◌<◌, List, [], ◌∷◌, ◌++◌, length, take, flat_map, Result, Ok, Err}
use Rattle.io_edge.specs.declared.Failed.{Failed}

-- the first n bytes of the piece were taken; after a failure nothing of it was
abbrev pub Puts : {Self : Type 0} → (Self → List ℕ → Self → Type 0) → Self → List ℕ → Result ℕ Failed → Self → Type 0
Puts took old piece (Ok n) new = took old (take n piece) new
Puts took old piece (Err failed) new = took old [] new

-- the first `count` bytes of the text were taken, and not all of it
pub record TookPart {Self : Type 0} (took : Self → List ℕ → Self → Type 0) (old : Self) (text : List ℕ) (new : Self) : Type 0 where
  pub count : ℕ
  pub part : count < length text
  pub taken : took old (take count text) new

-- the whole text was taken; after a failure a part of it was
abbrev pub Wrote : {Self : Type 0} → (Self → List ℕ → Self → Type 0) → Self → List ℕ → Result (Unit {0}) Failed → Self → Type 0
Wrote took old text (Ok done) new = took old text new
Wrote took old text (Err failed) new = TookPart took old text new

-- the texts of some items were taken whole, and the first `count` bytes of the next item's, not all of it
pub record BrokeOff {Self Item : Type 0} (took : Self → List ℕ → Self → Type 0) (text : Item → List ℕ) (old : Self) (items : List Item) (new : Self) : Type 0 where
  pub whole : List Item
  pub next : Item
  pub rest : List Item
  pub order : items ≡ whole ++ next ∷ rest
  pub count : ℕ
  pub part : count < length (text next)
  pub taken : took old (flat_map text whole ++ take count (text next)) new

-- what was taken first, and then what was taken next, was taken in all
pub record Joins {Self : Type 0} (took : Self → List ℕ → Self → Type 0) : Type 0 where
  pub join : (a b c : Self) (front back : List ℕ) → took a front b → took b back c → took a (front ++ back) c
