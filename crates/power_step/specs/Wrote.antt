-- Lines that a sink took; where it failed, the last of them only in part.
use Rattle.std.specs.Prelude.{◌≡◌, ◌<◌, ◌++◌, ◌∷◌, ℕ, List, [], Result, Err, length, take}
use Rattle.storage_model.specs.declared.ends.Halt.{Halt}
use Rattle.storage_model.specs.declared.ends.Halt.TheVariants.{SinkFailed}
use Rattle.storage_model.specs.declared.trace.Item.{Item}
use Rattle.trace_text.specs.Trace.{item_text, items_text}

-- these lines were taken, the last of them in part
pub record TakesPart {K : Type 0} (took : K → List ℕ → K → Type 0) (old : K) (lines : List Item) (new : K) : Type 0 where
  pub whole : List Item
  pub item : Item
  pub are : lines ≡ whole ++ item ∷ []
  pub count : ℕ
  pub part : count < length (item_text item)
  pub taken : took old (items_text whole ++ take count (item_text item)) new

-- these lines were written; where the sink failed, the last of them in part
abbrev pub Wrote : {K : Type 0} → (K → List ℕ → K → Type 0) → K → List Item → Result (Unit {0}) Halt → K → Type 0
Wrote took old lines (Err SinkFailed) new = TakesPart took old lines new
Wrote took old lines result new = took old (items_text lines) new
