-- What a loss of power may leave of a unit: all its sectors come of one segment of one epoch.
use Rattle.std.specs.Prelude.{ℕ, ◌+◌, ◌*◌, ◌%◌, ◌==◌, ◌&&◌, Bool, false, if◌then◌else◌, List, [], ◌∷◌, ◌++◌, filter, length, map}
use Rattle.std.specs.List.{list_all, list_any, range_with_len}
use Rattle.storage_model.specs.Contents.{bars, before_epoch, puts_if, sector_at}
use Rattle.storage_model.specs.Left.{every_below, is_mix, some_below}
use Rattle.storage_model.specs.Unit.{sectors_of_unit, unit_of, whole_units}
use Rattle.storage_model.specs.declared.block.Block.{Block}
use Rattle.storage_model.specs.declared.form.Form.{Form}
use Rattle.storage_model.specs.declared.marks.Mark.{Mark}
use Rattle.storage_model.specs.declared.marks.Put.{Put}

-- the puts on unit k in epoch e
unfoldable pub unit_puts : Form → ℕ → ℕ → List Mark → List Put
unit_puts form e k pend = puts_if (λ q. (q.epoch == e) && (unit_of form.unit q.put.sector == k)) pend

-- the values of sectors, as puts
abbrev pub as_puts : List Block → List ℕ → List Put
as_puts contents sectors = map (λ s. record { sector = s; value = sector_at contents s; reliable = false }) sectors

-- Segments: puts, behind those at hand, parted in front of each reliable one on a unit's first sector. Where puts stand in runs the
-- reliable ones of a segment are those of the run with which it begins, one on each sector.
abbrev pub parted : ℕ → List Put → List Put → List (List Put)
parted first segment [] = segment ∷ []
parted first segment (put ∷ puts) =
    if put.reliable && (put.sector == first) then segment ∷ parted first (put ∷ []) puts else parted first (segment ++ put ∷ []) puts

-- the segments of unit k in epoch e; the first begins with the values in front of the epoch
abbrev pub unit_segments : Form → List Block → List Mark → ℕ → ℕ → List (List Put)
unit_segments form base pend e k =
    parted (form.unit * k) (as_puts (before_epoch e base pend) (sectors_of_unit form.unit k)) (unit_puts form e k pend)

-- the values of sector s in a segment
abbrev pub values_on : ℕ → List Put → List Block
values_on s segment = map (λ put. put.value) (filter (λ put. put.sector == s) segment)

-- sectors are left by one segment: each is a mix of its values there
abbrev pub left_by : List ℕ → (ℕ → Block) → List Put → Bool
left_by sectors left segment = list_all (λ s. is_mix (values_on s segment) (left s)) sectors

-- where epoch e is the one that was being written, unit k may be left so
unfoldable pub unit_mix : Form → List Block → List Mark → ℕ → ℕ → (ℕ → Block) → Bool
unit_mix form base pend e k left = list_any (left_by (sectors_of_unit form.unit k) left) (unit_segments form base pend e k)

-- so may the sectors of a unit up to sector s, of which alone something is known
abbrev pub sectors_up_to : ℕ → ℕ → List ℕ
sectors_up_to unit s = range_with_len (unit * unit_of unit s) (s % unit + 1)

unfoldable pub part_mix : Form → List Block → List Mark → ℕ → ℕ → (ℕ → Block) → Bool
part_mix form base pend e s left = list_any (left_by (sectors_up_to form.unit s) left) (unit_segments form base pend e (unit_of form.unit s))

-- each unit of `after` may be left, where epoch e is the one that was being written; and where some epoch is
abbrev pub units_left_in : Form → List Block → List Mark → List Block → ℕ → Bool
units_left_in form base pend after e = every_below (whole_units form.unit (length base)) (λ k. unit_mix form base pend e k (λ s. sector_at after s))

unfoldable pub units_left : Form → List Block → List Mark → List Block → Bool
units_left form base pend after = some_below (bars pend + 1) (units_left_in form base pend after)
