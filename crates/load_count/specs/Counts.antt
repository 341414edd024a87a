-- The counts of a trace.
use Rattle.std.specs.Prelude.{ℕ, Bool, true, false, List, Option, None, Some, count_by, fold}
use Rattle.std.specs.Io.Iter.{u64_saturate}
use Rattle.storage_model.specs.declared.trace.End.{End}
use Rattle.storage_model.specs.declared.trace.Item.{Item}
use Rattle.storage_model.specs.declared.trace.Item.TheVariants.{Done, Read, Fault, Refused, Lost, Phase, Off}
use Rattle.load_count.specs.declared.counts.Counts.{Counts}

abbrev pub is_ok : Item → Bool
is_ok (Done id) = true
is_ok _ = false

abbrev pub is_data : Item → Bool
is_data (Read id) = true
is_data _ = false

-- a fault of the bus or the flash, or a refusal
abbrev pub is_fault : Item → Bool
is_fault (Fault id why) = true
is_fault (Refused id why) = true
is_fault _ = false

abbrev pub is_lost : Item → Bool
is_lost (Lost id) = true
is_lost _ = false

abbrev pub is_phase : Item → Bool
is_phase (Phase n id count kept) = true
is_phase _ = false

abbrev pub is_kept : Item → Bool
is_kept (Phase n id count kept) = kept
is_kept _ = false

-- so many items of a kind, up to the last number of 64 bits
abbrev pub number_of : (Item → Bool) → List Item → ℕ
number_of kind items = u64_saturate (count_by kind items)

-- the last line of an end, where there is one
abbrev pub end_behind : Option End → Item → Option End
end_behind before (Off end) = Some end
end_behind before _ = before

abbrev pub last_end : List Item → Option End
last_end items = fold end_behind None items

abbrev pub counts : List Item → Counts
counts items = record {
  ok = number_of is_ok items;
  reads = number_of is_data items;
  fault = number_of is_fault items;
  lost = number_of is_lost items;
  phases = number_of is_phase items;
  kept = number_of is_kept items;
  end = last_end items;
}
