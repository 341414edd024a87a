-- SWITCH (CMD6), the command that writes the extended CSD (JESD84-B51, sections 6.10.4 and 7.4).
use Rattle.std.specs.Prelude.{◌≡◌, ◌≢◌, ℕ, ◌-◌, ◌==◌, Bool, true, false, ◌&&◌, Option, Some, None, if◌then◌else◌, bit_and, bit_or, find, option_and_then}
use Rattle.std.specs.Option.{option_map}
use Rattle.cq_words.specs.declared.table.BitField.{BitField}
use Rattle.cq_words.specs.Table.{number_in}
use Rattle.ext_csd.specs.declared.csd.ExtCsd.{ExtCsd}
use Rattle.ext_csd.specs.declared.field.Field.{Field}
use Rattle.ext_csd.specs.declared.field.Field.TheVariants.{CmdqModeEn, BarrierCtrl, FlushCache, CacheCtrl}
use Rattle.ext_csd.specs.declared.switch.Change.{Change}
use Rattle.ext_csd.specs.declared.switch.Change.TheVariants.{Plain, Flush, Barrier, CacheOff}
use Rattle.ext_csd.specs.Table.{all_fields, row_of}
use Rattle.ext_csd.specs.Values.{value_of}

-- the parts of the argument: the access, the index of the field, and the value
abbrev pub access_bits : BitField
access_bits = record { low = 24; width = 2 }

abbrev pub index_bits : BitField
index_bits = record { low = 16; width = 8 }

abbrev pub value_bits : BitField
value_bits = record { low = 8; width = 8 }

-- the field that may be written and stands at an index
unfoldable pub writable_at : ℕ → Option Field
writable_at index = find (λ field. (row_of field).writable && ((row_of field).index == index)) all_fields

-- the new value by the access: 1 sets bits, 2 clears bits, 3 writes the byte
abbrev pub written : (access old value : ℕ) → Option ℕ
written access old value =
    if access == 1 then Some (bit_or old value)
    else if access == 2 then Some (bit_and old (255 - value))
    else if access == 3 then Some value
    else None

-- on for 1, off for 0, and no other value
abbrev pub on_or_off : ℕ → Option Bool
on_or_off value = if value == 1 then Some true else if value == 0 then Some false else None

-- the extended CSD after a SWITCH, and what the card has to do besides
pub record Switched : Type 0 where
  pub csd : ExtCsd
  pub change : Change

-- a field with its new value, where it is allowed
abbrev pub accepted : ExtCsd → Field → ℕ → Option Switched
accepted csd CmdqModeEn value =
    option_map (λ on. record { csd = record csd { command_queue = on }; change = Plain }) (on_or_off value)
accepted csd BarrierCtrl value =
    option_map (λ on. record { csd = record csd { barrier = on }; change = Plain }) (on_or_off value)
accepted csd FlushCache value =
    if value == 1 then Some (record { csd = csd; change = Flush })
    else if (value == 2) && csd.barrier then Some (record { csd = csd; change = Barrier })
    else None
accepted csd CacheCtrl value =
    option_map (λ on. record { csd = record csd { cache = on }; change = if csd.cache then (if on then Plain else CacheOff) else Plain }) (on_or_off value)
accepted csd _ value = None

-- what a SWITCH with this argument makes of the extended CSD, where it is not refused
unfoldable pub switched : ExtCsd → ℕ → Option Switched
switched csd arg =
    option_and_then
    (λ field. option_and_then (accepted csd field) (written (number_in arg access_bits) (value_of csd field) (number_in arg value_bits)))
    (writable_at (number_in arg index_bits))

-- the field at the argument's index reads as its new value, but for FLUSH_CACHE, which always reads as 0
abbrev pub ReadsNew : ExtCsd → ℕ → ExtCsd → Type 0
ReadsNew old arg new =
    (field : Field) → (row_of field).index ≡ number_in arg index_bits → field ≢ FlushCache
    → written (number_in arg access_bits) (value_of old field) (number_in arg value_bits) ≡ Some (value_of new field)

-- every field at another index reads as before
abbrev pub KeepsOthers : ExtCsd → ℕ → ExtCsd → Type 0
KeepsOthers old arg new =
    (field : Field) → (row_of field).index ≢ number_in arg index_bits → value_of new field ≡ value_of old field
