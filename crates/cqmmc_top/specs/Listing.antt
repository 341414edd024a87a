-- The listing of the extended CSD: a line for each field, `INDEX NAME VALUE`, in the order of the table (JESD84-B51,
-- section 7.4).
use Rattle.std.specs.Prelude.{ℕ, List, ◌∷◌, [], ◌++◌, flat_map, decimal}
use Rattle.ext_csd.specs.declared.csd.ExtCsd.{ExtCsd}
use Rattle.ext_csd.specs.declared.field.Field.{Field}
use Rattle.ext_csd.specs.declared.field.TheConstants.Field.{ALL}
use Rattle.ext_csd.specs.Table.{row_of, name_of}
use Rattle.ext_csd.specs.Values.{value_of}

unfoldable pub field_text : ExtCsd → Field → List ℕ
field_text csd field = decimal (row_of field).index ++ 32 ∷ [] ++ name_of field ++ 32 ∷ [] ++ decimal (value_of csd field) ++ 10 ∷ []

abbrev pub csd_text : ExtCsd → List ℕ
csd_text csd = flat_map (field_text csd) ALL
