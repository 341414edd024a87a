-- The unit of an image: the sectors that are written together, 1, or 8 where a native sector has 4,096 bytes (JESD84-B51, large sectors).
use Rattle.std.specs.Prelude.{◌≡◌, ◌⊎◌, ℕ, ◌*◌, ◌/◌, ◌%◌, ◌==◌, Bool, List}
use Rattle.std.specs.List.{range_with_len}
use Rattle.storage_model.specs.declared.form.Form.{Form}

-- a unit has 1 or 8 sectors
abbrev pub IsForm : Form → Type 0
IsForm form = (form.unit ≡ 1) ⊎ (form.unit ≡ 8)

-- the unit that a sector is in
abbrev pub unit_of : ℕ → ℕ → ℕ
unit_of unit sector = sector / unit

-- the sectors of unit k, in order
abbrev pub sectors_of_unit : ℕ → ℕ → List ℕ
sectors_of_unit unit k = range_with_len (unit * k) unit

-- a first sector, or a number of sectors, is a multiple of the unit
abbrev pub is_aligned : ℕ → ℕ → Bool
is_aligned unit n = n % unit == 0

-- how many whole units so many blocks are
abbrev pub whole_units : ℕ → ℕ → ℕ
whole_units unit blocks = blocks / unit
