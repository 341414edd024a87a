-- Where a unit is one sector each of these is what is said of sectors; and what is so of units of several.
use Rattle.std.specs.Prelude.{◌≡◌, ◌↔◌, ℕ, ◌+◌, ◌-◌, ◌*◌, ◌<◌, ◌≤◌, ◌||◌, Bool, true, false, List, [], ◌∷◌, ◌++◌, length}
use Rattle.std.specs.List.{list_all}
use Rattle.card_store.specs.Staging.{HasRoom}
use Rattle.card_store.specs.Store.{Contents, with_put}
use Rattle.epoch_cache.specs.Cache.{Cache}
use Rattle.image_form.specs.Form.{IsSuper}
use Rattle.image_form.specs.declared.superblock.Super.{Super}
use Rattle.storage_machine.specs.Jobs.{is_in_range, job_of}
use Rattle.storage_machine.specs.declared.state.State.{State}
use Rattle.storage_machine.specs.declared.state.Owed.TheVariants.{Nothing}
use Rattle.storage_machine.specs.declared.state.Stop.TheVariants.{Align}
use Rattle.storage_model.specs.Contents.{bars}
use Rattle.storage_model.specs.Left.{is_mix, mix_at}
use Rattle.storage_model.specs.Unit.{is_aligned, sectors_of_unit, whole_units}
use Rattle.storage_model.specs.declared.block.Block.{Block}
use Rattle.storage_model.specs.declared.form.Form.{Form}
use Rattle.storage_model.specs.declared.marks.Mark.{Mark}
use Rattle.storage_model.specs.declared.marks.Put.{Put}
use Rattle.storage_model.specs.declared.plan.Fill.{Fill}
use Rattle.storage_model.specs.declared.plan.Job.{Job}
use Rattle.trace_effects.specs.Cuts.{epochs_with, is_deferred}
use Rattle.trace_effects.specs.Effects.{after_address, over}
use Rattle.trace_effects.specs.Phases.{bars_with, marks_of, puts_of}
use Rattle.unit_laws.specs.Mixes.{part_mix, unit_mix}
use Rattle.unit_laws.specs.Rooms.{HasUnitRoom, form_told, lines_after, lines_needed, most_lines, with_unit}
use Rattle.unit_laws.specs.Steps.{address_taken, epochs_by_units, is_deferred_by, is_task_aligned}
use Rattle.unit_laws.specs.Writes.{Run, StandInRuns, ends_unit, held_back, marks_of_units, phase_bars, phase_marks, run_marks}

-- a unit is one sector, and units are no epochs of their own
pub record IsPlain (form : Form) : Type 0 where
  pub unit : form.unit ≡ 1
  pub fifo : form.fifo ≡ false

-- a block is a whole unit, and none is held back
pub record AreBlocks (form : Form) (count : ℕ) : Type 0 where
  pub whole : whole_units form.unit count ≡ count
  pub held : held_back form count ≡ 0
  pub ends : ends_unit form count ≡ true

-- what may be left of a unit is what may be left of its sector, and `is_left` says it of all
pub record IsMixOfSector (form : Form) (base : List Block) (pend : List Mark) (e s : ℕ) (left : ℕ → Block) : Type 0 where
  pub unit : unit_mix form base pend e s left ≡ mix_at base pend e s (left s)
  pub part : part_mix form base pend e s left ≡ mix_at base pend e s (left s)

-- a phase appends what it does by sectors, and all marks stand in runs
pub record IsPhaseOfSectors (form : Form) (s : State) (job : Job) (count : ℕ) : Type 0 where
  pub marks : phase_marks form s job count ≡ marks_of s job count
  pub bars : phase_bars form s.bars job count ≡ bars_with s.bars job

-- the machine does what it does by sectors
pub record IsStepOfSectors (form : Form) (s : State) : Type 0 where
  pub address : (n id : ℕ) → address_taken form s n id ≡ after_address s n id
  pub epochs : (sector : ℕ) (value : Block) → epochs_by_units form s sector value ≡ epochs_with s sector value
  pub deferred : is_deferred_by form s ≡ is_deferred s

-- a put is a run
abbrev pub run_of : Put → Run
run_of put = record { unit = put.sector; value = λ s. put.value; reliable = put.reliable }

-- the store does what it does by sectors
pub record IsStoreOfSectors (form : Form) (put : Put) (cache : Cache) : Type 0 where
  pub room : HasUnitRoom form put.sector cache ↔ HasRoom put cache
  pub lines : 1 ≤ cache.room → most_lines form cache.room ≡ cache.room
  pub contents : form.fifo ≡ false → (c : Contents) → with_unit form (run_of put) cache.last c ≡ with_put put c

-- the superblock of an image of version 1 tells that form
abbrev pub IsToldPlain : Block → Super → ℕ → Type 0
IsToldPlain block super policy = IsSuper block super → IsPlain (form_told super policy)

-- Units of any size. The blocks that moved are whole units and those held back, and the last block of a unit ends it.
pub record AreUnits (form : Form) (count : ℕ) : Type 0 where
  pub all : form.unit * whole_units form.unit count + held_back form count ≡ count
  pub fewer : held_back form count < form.unit
  pub last : ends_unit form count ≡ true → held_back form count + 1 ≡ form.unit

-- Without the policy the marks of units are the puts of their blocks.
abbrev pub ArePuts : Form → List Block → ℕ → Fill → Bool → ℕ → ℕ → Type 0
ArePuts form blocks sector fill reliable before units =
    form.fifo ≡ false → marks_of_units form blocks sector fill reliable before units ≡ puts_of blocks sector fill reliable (form.unit * units)

-- The barriers of a phase are counted, up to the last number.
abbrev pub AreBars : Form → State → Job → ℕ → Type 0
AreBars form s job count = s.bars ≤ 4294967295 → s.bars + bars (phase_marks form s job count) ≡ phase_bars form s.bars job count

-- With the policy or without it, they stand in runs where the write begins with a unit.
abbrev pub AreRuns : Form → List Block → ℕ → Fill → Bool → ℕ → ℕ → Type 0
AreRuns form blocks sector fill reliable before units =
    1 ≤ form.unit → is_aligned form.unit sector ≡ true → StandInRuns form (marks_of_units form blocks sector fill reliable before units)

-- A task past the end is refused for that, whether it is of whole units or not; within the sectors it is sent where it is of whole
-- units, and else refused for that.
pub record StopsInOrder (form : Form) (s : State) (n id : ℕ) : Type 0 where
  pub past : is_in_range (job_of s.plan.jobs id) (length s.base) ≡ false → address_taken form s n id ≡ after_address s n id
  pub aligned : is_task_aligned form (job_of s.plan.jobs id) ≡ true → address_taken form s n id ≡ after_address s n id
  pub other : is_in_range (job_of s.plan.jobs id) (length s.base) ≡ true → is_task_aligned form (job_of s.plan.jobs id) ≡ false
      → address_taken form s n id ≡ over (record s { n = n; stop = Align id }) Nothing

-- Where all sectors of a unit are known, the part of it is the unit.
abbrev pub IsPartWhole : Form → List Block → List Mark → ℕ → ℕ → (ℕ → Block) → Type 0
IsPartWhole form base pend e k left = 1 ≤ form.unit → part_mix form base pend e (form.unit * k + (form.unit - 1)) left ≡ unit_mix form base pend e k left

-- A unit that is written reliably is left as it was, or new on all its sectors.
abbrev pub is_new : Form → Run → (ℕ → Block) → Bool
is_new form run left = list_all (λ s. is_mix (run.value s ∷ []) (left s)) (sectors_of_unit form.unit run.unit)

abbrev pub IsOldOrNew : Form → List Block → List Mark → Run → (ℕ → Block) → Type 0
IsOldOrNew form base pend run left =
    1 ≤ form.unit → run.reliable ≡ true
    → unit_mix form base (pend ++ run_marks form run) (bars pend) run.unit left ≡ (unit_mix form base pend (bars pend) run.unit left || is_new form run left)

-- A unit's puts add the lines that it needs, and into a cache without lines goes any unit.
abbrev pub AddsLines : Form → Run → Cache → Type 0
AddsLines form run cache = length (lines_after form run cache) ≡ length cache.lines + lines_needed form run.unit cache

abbrev pub FitsEmpty : Form → (k last lines : ℕ) → Type 0
FitsEmpty form k last lines = HasUnitRoom form k (record { lines = []; last = last; room = most_lines form lines })
