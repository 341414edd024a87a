-- Lines as a sink takes them, and what has to have happened for some of them to be printed.
use Rattle.std.specs.Prelude.{◌⊎◌, ◌≡◌, ◌<◌, ◌≤◌, ℕ, ◌+◌, ◌-◌, Bool, true, false, List, [], ◌∷◌, ◌++◌, length, take, count_by, Option, None, Some, Result, Err}
use Rattle.storage_model.specs.Count.{Count, Later}
use Rattle.storage_model.specs.declared.ends.Halt.{Halt}
use Rattle.storage_model.specs.declared.ends.Halt.TheVariants.{SinkFailed, OpenFault}
use Rattle.storage_model.specs.declared.trace.Item.{Item}
use Rattle.storage_model.specs.declared.trace.Item.TheVariants.{Cut, Flash}
use Rattle.array_edge.specs.Array.{ArrayState}
use Rattle.trace_text.specs.Trace.{item_text, items_text}

-- whole lines were taken, and a part of the next
pub record Breaks {K : Type 0} (took : K → List ℕ → K → Type 0) (old : K) (items : List Item) (new : K) : Type 0 where
  pub whole : List Item
  pub item : Item
  pub rest : List Item
  pub are : items ≡ whole ++ item ∷ rest
  pub count : ℕ
  pub part : count < length (item_text item)
  pub taken : took old (items_text whole ++ take count (item_text item)) new

-- the lines were taken; where the sink failed, whole ones and a part of the next
abbrev pub Takes : {K : Type 0} → (K → List ℕ → K → Type 0) → K → List Item → Result (Unit {0}) Halt → K → Type 0
Takes took old items (Err SinkFailed) new = Breaks took old items new
Takes took old items result new = took old (items_text items) new

abbrev pub is_flash : Item → Bool
is_flash (Flash id) = true
is_flash item = false

abbrev pub is_cut_line : Item → Bool
is_cut_line Cut = true
is_cut_line item = false

-- as many rises as lines, unless the count stands at its end
abbrev pub RoseBy : ℕ → Count → Count → Type 0
RoseBy n old new = (old.value + n ≤ new.value) ⊎ (new.stands ≡ true)

abbrev pub halt_faults : Result (Unit {0}) Halt → ℕ
halt_faults (Err OpenFault) = 1
halt_faults result = 0

-- the counts explain the lines: `more` cuts come without one
pub record HasCauses (more : ℕ) (old new : ArrayState) (items : List Item) (result : Result (Unit {0}) Halt) : Type 0 where
  pub later_faults : Later old.faults new.faults
  pub later_cuts : Later old.cuts new.cuts
  pub flash : RoseBy (count_by is_flash items + halt_faults result) old.faults new.faults
  pub cuts : RoseBy (count_by is_cut_line items - more) old.cuts new.cuts

-- a line or none
abbrev pub line_in : Option Item → List Item
line_in None = []
line_in (Some item) = item ∷ []
