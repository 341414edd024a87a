-- What holds of the job of a phase line that may stand.
use Rattle.std.proofs.Common.{◌≡◌, ℕ, ◌+◌, ◌-◌, ◌^◌, ◌<◌, ◌≤◌, Bool, true, Option, Some, None, List, length, arith, inl, inr}
use Rattle.std.specs.Prelude.{All}
use Rattle.std.proofs.lemmas.Bool.{and_parts, cases_lt, eqb-true, leb-true}
use Rattle.std.proofs.lemmas.List.{get_or_past}
use Rattle.storage_machine.specs.Commands.{due, hit}
use Rattle.storage_machine.specs.Jobs.{is_in_range, job_of, may_move, phase_blocks, sector_of}
use Rattle.trace_rules.specs.Phases.{is_phase_of, most_blocks, moves, phase_holds}
use Rattle.storage_machine.specs.declared.commands.DueCommand.{DueCommand}
use Rattle.storage_machine.specs.declared.commands.DueCommand.TheVariants.{Idle, Address, Params, Direct, Execute, Poll}
use Rattle.storage_machine.specs.declared.state.State.{State}
use Rattle.storage_model.specs.Plan.{IsValidJob, blocks_of}
use Rattle.storage_model.specs.declared.block.Block.{Block}
use Rattle.storage_model.specs.declared.faults.BusKind.{BusKind}
use Rattle.storage_model.specs.declared.faults.BusKind.TheVariants.{Lost, NoResp, Bad, Late}
use Rattle.storage_model.specs.declared.plan.Job.{Job}
use Rattle.storage_model.specs.declared.plan.Job.TheVariants.{Read, Write, Flush, Barrier, Status}

pub record PhaseFacts (s : State) (id count : ℕ) : Type 0 where
  pub inside : is_in_range (job_of s.plan.jobs id) (length s.base) ≡ true
  pub moved : count ≤ phase_blocks (job_of s.plan.jobs id)

most_le : (kind : Option BusKind) (blocks : ℕ) → most_blocks kind blocks ≤ blocks
most_le None blocks = omega arith
most_le (Some Lost) blocks = omega arith
most_le (Some NoResp) blocks = omega arith
most_le (Some (Bad block)) blocks = omega arith
most_le (Some Late) blocks = omega arith

count_le : (job : Job) (most count : ℕ) → may_move job most count ≡ true → most ≤ phase_blocks job → count ≤ phase_blocks job
count_le (Read sector blocks high) most count may below = omega (arith, leb-true count most may)
count_le (Write sector blocks fill forced reliable high) most count may below = omega (arith, leb-true count most may)
count_le Flush most count may below = omega (arith, leb-true count most may)
count_le Barrier most count may below = omega (arith, eqb-true count 1 may)
count_le Status most count may below = omega (arith, eqb-true count 1 may)

moves_facts : (s : State) (tag id count : ℕ) (kept : Bool) → moves s tag id count kept ≡ true → PhaseFacts s id count
moves_facts s tag id count kept h =
    let own = and_parts _ _ h in
    let moved = and_parts _ _ own.1 in
    let rest = and_parts _ _ moved.1 in
    record {
      inside = rest.1;
      moved = count_le (job_of s.plan.jobs id) (most_blocks (hit s) (phase_blocks (job_of s.plan.jobs id))) count moved.0 (most_le (hit s) (phase_blocks (job_of s.plan.jobs id)));
    }

command_facts : (s : State) (id count : ℕ) (kept : Bool) (command : DueCommand) → is_phase_of s id count kept command ≡ true → PhaseFacts s id count
command_facts s id count kept Idle h = absurd (cc)
command_facts s id count kept (Address tag) h = absurd (cc)
command_facts s id count kept (Params tag) h = absurd (cc)
command_facts s id count kept (Direct tag) h = moves_facts s tag id count kept ((and_parts _ _ h).1)
command_facts s id count kept (Execute tag) h = moves_facts s tag id count kept ((and_parts _ _ h).1)
command_facts s id count kept Poll h = absurd (cc)

pub phase_facts : (s : State) (n id count : ℕ) (kept : Bool) → phase_holds s n id count kept ≡ true → PhaseFacts s id count
unfolding phase_holds
phase_facts s n id count kept h = command_facts s id count kept (due s) ((and_parts _ _ h).1)

-- a job of a valid plan is valid
pub job_valid : (blocks : List Block) (jobs : List Job) (id : ℕ) → All (IsValidJob blocks) jobs → IsValidJob blocks (job_of jobs id)
job_valid blocks jobs id all =
    elim (cases_lt (id - 1) (length jobs)) [
      | inl below ↦ all (id - 1) Flush below
      | inr past ↦ rw (get_or_past jobs (id - 1) Flush past) tt
    ]

pub range_fits : (job : Job) (sectors : ℕ) → is_in_range job sectors ≡ true → sectors < 2 ^ 32 → sector_of job + blocks_of job < 2 ^ 32
range_fits job sectors inside short = omega (arith, leb-true (sector_of job + blocks_of job) sectors inside)
