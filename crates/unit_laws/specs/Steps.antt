-- What the storage machine does by units: a task that isn't of whole units, and what it judges after a cut.
use Rattle.std.specs.Prelude.{ℕ, ◌+◌, ◌==◌, ◌&&◌, nat_le, Bool, not, if◌then◌else◌, List, filter, length}
use Rattle.storage_machine.specs.Jobs.{is_in_range, job_of, sector_of}
use Rattle.storage_machine.specs.declared.state.Owed.TheVariants.{Nothing}
use Rattle.storage_machine.specs.declared.state.State.{State}
use Rattle.storage_machine.specs.declared.state.Stop.TheVariants.{Align}
use Rattle.storage_model.specs.Contents.{contents_now, sector_at}
use Rattle.storage_model.specs.Plan.{blocks_of}
use Rattle.storage_model.specs.Unit.{is_aligned}
use Rattle.storage_model.specs.declared.block.Block.{Block}
use Rattle.storage_model.specs.declared.form.Form.{Form}
use Rattle.storage_model.specs.declared.plan.Job.{Job}
use Rattle.trace_effects.specs.Cuts.{places_of}
use Rattle.trace_effects.specs.Effects.{addressed, over}
use Rattle.unit_laws.specs.Mixes.{part_mix}

-- a task is of whole units
abbrev pub is_task_aligned : Form → Job → Bool
is_task_aligned form job = is_aligned form.unit (sector_of job) && is_aligned form.unit (blocks_of job)

-- a task within the sectors that isn't of whole units stops the engine
abbrev pub addressed_by : State → ℕ → (inside aligned : Bool) → State
addressed_by s id inside aligned = if inside && not aligned then record s { stop = Align id } else addressed s id inside

unfoldable pub address_taken : Form → State → ℕ → ℕ → State
address_taken form s n id =
    over (addressed_by (record s { n = n }) id (is_in_range (job_of s.plan.jobs id) (length s.base)) (is_task_aligned form (job_of s.plan.jobs id))) Nothing

-- the values that were told since a cut, with one more
abbrev pub told_with : State → ℕ → Block → ℕ → Block
told_with s sector value k = if k == sector then value else sector_at (contents_now s.base s.lefts) k

-- the epochs that allow all of them
unfoldable pub epochs_by_units : Form → State → ℕ → Block → List ℕ
epochs_by_units form s sector value = filter (λ epoch. part_mix form s.base s.pend epoch sector (told_with s sector value)) s.epochs

-- Nothing of the cache was staged before the cut: there was room for a whole unit more.
abbrev pub is_deferred_by : Form → State → Bool
is_deferred_by form s =
    not s.plan.through && (not s.staged && (not s.kept && (s.worked && nat_le (length (places_of s.pend) + form.unit) s.plan.lines)))
