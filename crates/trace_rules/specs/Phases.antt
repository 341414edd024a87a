-- A data phase, or a direct command: what its line may say, and what it owes (JESD84-B51: CMD46 and CMD47, the cache flush and the barrier by
-- CMD6, reliable write, forced programming).
use Rattle.std.specs.Prelude.{ℕ, ◌+◌, ◌-◌, ◌==◌, ◌&&◌, ◌||◌, min, Bool, false, not, if◌then◌else◌, Option, Some, None, length}
use Rattle.storage_machine.specs.Commands.{due, hit, id_on, is_gone, is_lost, next_number}
use Rattle.storage_machine.specs.Jobs.{is_in_range, job_of, may_keep, may_move, must_keep, phase_blocks}
use Rattle.storage_machine.specs.declared.commands.DueCommand.{DueCommand}
use Rattle.storage_machine.specs.declared.commands.DueCommand.TheVariants.{Direct, Execute}
use Rattle.storage_machine.specs.declared.state.Owed.{Owed}
use Rattle.storage_machine.specs.declared.state.Owed.TheVariants.{Closed, Bus, Flash as FlashOwed}
use Rattle.storage_machine.specs.declared.state.State.{State}
use Rattle.storage_model.specs.declared.faults.BusKind.{BusKind}
use Rattle.storage_model.specs.declared.faults.BusKind.TheVariants.{Bad}
use Rattle.storage_model.specs.declared.plan.Job.{Job}

-- the blocks that may move before a fault of the data
abbrev pub most_blocks : Option BusKind → ℕ → ℕ
most_blocks (Some (Bad block)) blocks = min (block - 1) blocks
most_blocks kind blocks = blocks

-- the request on the tag may have a phase of so many blocks
abbrev pub moves : State → ℕ → ℕ → ℕ → Bool → Bool
moves s tag id count kept =
    (id_on s tag == id) && (may_move (job_of s.plan.jobs id) (most_blocks (hit s) (phase_blocks (job_of s.plan.jobs id))) count
    && (may_keep s.plan.through (job_of s.plan.jobs id) count kept && is_in_range (job_of s.plan.jobs id) (length s.base)))

-- it is the phase of the due command, of which the engine hears; a direct command without a response has acted
abbrev pub is_phase_of : State → ℕ → ℕ → Bool → DueCommand → Bool
is_phase_of s id count kept (Execute tag) = not (is_gone (hit s)) && moves s tag id count kept
is_phase_of s id count kept (Direct tag) = not (is_lost (hit s)) && moves s tag id count kept
is_phase_of s id count kept command = false

unfoldable pub phase_holds : State → ℕ → ℕ → ℕ → Bool → Bool
phase_holds s n id count kept = (n == next_number s) && is_phase_of s id count kept (due s)

-- all blocks moved, and what must be kept is kept
abbrev pub is_whole : Bool → Job → ℕ → Bool → Bool
is_whole through job count kept = (count == phase_blocks job) && (kept || not (must_keep through job))

-- what the phase line owes: the bus line of its fault, a flash line where it broke off before, nothing where it is whole
abbrev pub owed_by : Option BusKind → Bool → ℕ → ℕ → ℕ → Owed
owed_by None whole n id count = if whole then Closed else FlashOwed id
owed_by (Some (Bad block)) whole n id count = if count + 1 == block then Bus n id (Bad block) else FlashOwed id
owed_by (Some kind) whole n id count = Bus n id kind

-- the tag of the due command
abbrev pub tag_due : DueCommand → ℕ
tag_due (Execute tag) = tag
tag_due (Direct tag) = tag
tag_due command = 0
