-- The next command on the bus: the one that the engine has to send (JESD84-B51, command queueing: CMD44 and CMD45 queue a task, CMD13 asks for the
-- queue status, CMD46 and CMD47 execute one), its number, and what befalls it by the fault text.
use Rattle.std.specs.Prelude.{ℕ, ◌+◌, ◌==◌, ◌&&◌, nat_le, Bool, true, false, if◌then◌else◌, Option, Some, None, find, min, option_map, slice_index_or, bit_and}
use Rattle.storage_machine.specs.Jobs.{job_of, is_direct, is_high, phase_blocks}
use Rattle.storage_machine.specs.Slots.{asks, first, has, id_of, mask_of, slot_at}
use Rattle.storage_machine.specs.declared.commands.DueCommand.{DueCommand}
use Rattle.storage_machine.specs.declared.commands.DueCommand.TheVariants.{Idle, Address, Params, Direct, Execute, Poll}
use Rattle.storage_machine.specs.declared.slots.Question.TheVariants.{Rung, Named, Sent, Ready}
use Rattle.storage_machine.specs.declared.state.State.{State}
use Rattle.storage_machine.specs.declared.state.Stop.{Stop}
use Rattle.storage_machine.specs.declared.state.Stop.TheVariants.{Running}
use Rattle.storage_machine.specs.declared.state.Recovery.{Recovery}
use Rattle.storage_machine.specs.declared.state.Recovery.TheVariants.{Calm, Resumed}
use Rattle.storage_model.specs.declared.faults.BusKind.{BusKind}
use Rattle.storage_model.specs.declared.faults.BusKind.TheVariants.{Lost, NoResp, Bad, Late}
use Rattle.storage_model.specs.declared.plan.Job.{Job}

-- the number of the next command; the last number that a word holds stays
abbrev pub next_number : State → ℕ
next_number s = min (s.n + 1) 4294967295

abbrev pub is_running : Stop → Bool
is_running Running = true
is_running stop = false

abbrev pub is_calm : Recovery → Bool
is_calm Calm = true
is_calm recovery = false

-- the request and the job on a tag
abbrev pub id_on : State → ℕ → ℕ
id_on s tag = id_of (slot_at s.slots tag)

abbrev pub job_on : State → ℕ → Job
job_on s tag = job_of s.plan.jobs (id_on s tag)

-- the first ready task of high priority, in order
abbrev pub first_high : State → Option ℕ
first_high s = find (λ tag. asks Ready (slot_at s.slots tag) && is_high (job_on s tag)) s.order

-- the ready task to be executed: those of high priority come first
abbrev pub next_ready : State → Option ℕ → Option ℕ
next_ready s (Some high) = Some high
next_ready s None = first Ready s.slots s.order

-- where no task waits for its address or its parameters: execute one, else poll
abbrev pub execute_or_poll : State → Option ℕ → DueCommand
execute_or_poll s (Some ready) = Execute ready
execute_or_poll s None = if has Sent s.slots then Poll else Idle

-- a task gets its address before another gets its parameters, and both before one is executed
abbrev pub queue_first : State → Option ℕ → Option ℕ → DueCommand
queue_first s (Some named) rung = Address named
queue_first s None (Some rung) = if is_direct (job_on s rung) then Direct rung else Params rung
queue_first s None None = execute_or_poll s (next_ready s (first_high s))

-- a phase under way comes first
abbrev pub command_of_tasks : State → DueCommand
command_of_tasks s =
    if s.busy then execute_or_poll s (next_ready s (first_high s))
    else queue_first s (first Named s.slots s.order) (first Rung s.slots s.order)

-- the due command: none where the engine has stopped
unfoldable pub due : State → DueCommand
due s = if is_running s.stop then command_of_tasks s else Idle

-- the engine has nothing to do and isn't halted
abbrev pub may_tick : Recovery → Bool
may_tick Calm = true
may_tick Resumed = true
may_tick recovery = false

abbrev pub is_none_due : DueCommand → Bool
is_none_due Idle = true
is_none_due command = false

abbrev pub is_idle : State → Bool
is_idle s = is_none_due (due s) && (is_running s.stop && may_tick s.recovery)

-- the blocks of a task that is executed
abbrev pub execute_blocks : State → DueCommand → Option ℕ
execute_blocks s (Execute tag) = Some (phase_blocks (job_on s tag))
execute_blocks s command = None

-- Whether a command is of the kind that a fault hits: each can be lost or get no response; only the data of a task that is
-- executed can fail, or its status come late.
abbrev pub meets : Option ℕ → BusKind → Bool
meets blocks Lost = true
meets blocks NoResp = true
meets (Some blocks) (Bad block) = nat_le block blocks
meets (Some blocks) Late = true
meets None kind = false

abbrev pub met : Option ℕ → Option BusKind → Option BusKind
met blocks None = None
met blocks (Some kind) = if meets blocks kind then Some kind else None

-- what befalls the next command
unfoldable pub hit : State → Option BusKind
hit s = met (execute_blocks s (due s)) (option_map (λ fault. fault.kind) (find (λ fault. fault.n == next_number s) s.faults.bus))

abbrev pub is_lost : Option BusKind → Bool
is_lost (Some Lost) = true
is_lost kind = false

-- the engine gets no response
abbrev pub is_gone : Option BusKind → Bool
is_gone (Some Lost) = true
is_gone (Some NoResp) = true
is_gone kind = false

abbrev pub same_kind : BusKind → BusKind → Bool
same_kind Lost Lost = true
same_kind NoResp NoResp = true
same_kind (Bad block) (Bad other) = block == other
same_kind Late Late = true
same_kind kind other = false

abbrev pub is_kind : Option BusKind → BusKind → Bool
is_kind None other = false
is_kind (Some kind) other = same_kind kind other

-- the tasks that are ready at the next poll, where the card's word is all ones after the last
abbrev pub next_word : State → ℕ
next_word s = slice_index_or s.faults.ready s.words 4294967295

unfoldable pub polled_mask : State → ℕ
polled_mask s = bit_and (mask_of Sent s.slots) (next_word s)
