-- What a write appends, unit by unit, where a unit has one sector or several (JESD84-B51, large sectors, and CACHE_FLUSH_POLICY).
use Rattle.std.specs.Prelude.{◌≡◌, ℕ, ◌+◌, ◌%◌, ◌&&◌, nat_lt, min, Bool, if◌then◌else◌, Option, Some, None, List, [], ◌∷◌, ◌++◌, map}
use Rattle.std.specs.List.{flat_map, range_with_len}
use Rattle.storage_machine.specs.declared.state.State.{State}
use Rattle.storage_model.specs.Plan.{block_at}
use Rattle.storage_model.specs.Unit.{is_aligned, sectors_of_unit, whole_units}
use Rattle.storage_model.specs.declared.block.Block.{Block}
use Rattle.storage_model.specs.declared.form.Form.{Form}
use Rattle.storage_model.specs.declared.marks.Mark.{Mark}
use Rattle.storage_model.specs.declared.marks.Mark.TheVariants.{Put as PutMark, Bar}
use Rattle.storage_model.specs.declared.plan.Fill.{Fill}
use Rattle.storage_model.specs.declared.plan.Job.{Job}
use Rattle.storage_model.specs.declared.plan.Job.TheVariants.{Write}
use Rattle.trace_effects.specs.Phases.{bars_with, marks_of}

-- of so many blocks that moved, those behind the last whole unit are held back
abbrev pub held_back : Form → ℕ → ℕ
held_back form count = count % form.unit

-- one block more ends a unit
abbrev pub ends_unit : Form → ℕ → Bool
ends_unit form count = is_aligned form.unit (count + 1)

-- a run: a put on each sector of one unit, in order, all of them reliable or none
pub record Run : Type 0 where
  pub unit : ℕ
  pub value : ℕ → Block
  pub reliable : Bool

abbrev pub run_marks : Form → Run → List Mark
run_marks form run = map (λ s. PutMark (record { sector = s; value = run.value s; reliable = run.reliable })) (sectors_of_unit form.unit run.unit)

-- marks stand in runs, with a barrier (here none) between some of them
abbrev pub part_marks : Form → Option Run → List Mark
part_marks form None = Bar ∷ []
part_marks form (Some run) = run_marks form run

abbrev pub StandInRuns : Form → List Mark → Type 0
StandInRuns form pend = (parts : List (Option Run)) × (pend ≡ flat_map (part_marks form) parts)

-- the puts of unit k of a write, which begins at a sector
abbrev pub puts_of_unit : Form → List Block → ℕ → Fill → Bool → ℕ → List Mark
puts_of_unit form blocks sector fill reliable k =
    map (λ j. PutMark (record { sector = sector + j; value = block_at blocks fill j; reliable = reliable })) (sectors_of_unit form.unit k)

-- by the policy each unit ends its epoch, but none once so many barriers were appended as can be counted
abbrev pub unit_bar : Form → ℕ → List Mark
unit_bar form bars = if form.fifo && nat_lt bars 4294967295 then Bar ∷ [] else []

-- the marks of the first units of a write, where so many barriers were appended before
unfoldable pub marks_of_units : Form → List Block → ℕ → Fill → Bool → ℕ → ℕ → List Mark
marks_of_units form blocks sector fill reliable bars units =
    flat_map (λ k. puts_of_unit form blocks sector fill reliable k ++ unit_bar form (bars + k)) (range_with_len 0 units)

-- the marks that a phase appends: of a write those of the whole units among its first blocks
abbrev pub phase_marks : Form → State → Job → ℕ → List Mark
phase_marks form s (Write sector blocks fill forced reliable high) count =
    marks_of_units form s.plan.blocks sector fill reliable s.bars (whole_units form.unit count)
phase_marks form s job count = marks_of s job count

-- how many barriers were appended then
abbrev pub phase_bars : Form → ℕ → Job → ℕ → ℕ
phase_bars form bars (Write sector blocks fill forced reliable high) count =
    if form.fifo then min (bars + whole_units form.unit count) 4294967295 else bars
phase_bars form bars job count = bars_with bars job
