-- What the host has to do: steps of a recovery, answers, and the next request (after the Linux cqhci driver: cqhci_irq, cqhci_recovery_start and _finish, cqhci_request).
use Rattle.std.specs.Prelude.{ℕ, ◌+◌, ◌-◌, ◌==◌, ◌&&◌, ◌||◌, nat_lt, Bool, true, false, not, if◌then◌else◌, Option, Some, None, is_some, option_map, position, slice_index_or}
use Rattle.std.specs.List.{list_any}
use Rattle.storage_machine.specs.Commands.{is_calm, is_running}
use Rattle.storage_machine.specs.Jobs.{job_of, is_direct}
use Rattle.storage_machine.specs.Slots.{asks, has, no_tasks, slot_at, tag_of}
use Rattle.storage_machine.specs.declared.slots.Question.TheVariants.{Done, Issued, Vacant}
use Rattle.storage_machine.specs.declared.state.State.{State}
use Rattle.storage_machine.specs.declared.state.Stop.{Stop}
use Rattle.storage_machine.specs.declared.state.Stop.TheVariants.{Bus, Flash, Range, Align}
use Rattle.storage_machine.specs.declared.state.Recovery.{Recovery}
use Rattle.storage_machine.specs.declared.state.Recovery.TheVariants.{Calm, Halted, Cleared, Discarded, Cleaned, Resumed}
use Rattle.storage_model.specs.declared.plan.Job.{Job}

-- a request waits or is issued, or a recovery is under way
unfoldable pub to_do : State → Bool
to_do s = list_any (λ waits. waits) s.waiting || (has Issued s.slots || not (is_calm s.recovery))

-- a tag below the depth
abbrev pub below : ℕ → Option ℕ → Option ℕ
below depth None = None
below depth (Some tag) = if nat_lt tag depth then Some tag else None

-- The tag for a job: a direct one goes alone, on the last slot; a read or write takes the lowest tag below the depth, where no direct one is issued.
abbrev pub tag_for : State → Job → Option ℕ
tag_for s job =
    if is_direct job then (if has Issued s.slots then None else Some 31)
    else (if asks Issued (slot_at s.slots 31) then None else below s.plan.depth (tag_of Vacant s.slots))

-- the request that waits with the lowest number, from 0
abbrev pub next_place : State → Option ℕ
next_place s = position (λ waits. waits) s.waiting

abbrev pub issue_of : State → Option ℕ → Option (ℕ × ℕ)
issue_of s None = None
issue_of s (Some place) = option_map (λ tag. (place + 1, tag)) (tag_for s (job_of s.plan.jobs (place + 1)))

-- the request that may be issued now, and its tag
unfoldable pub next_issue : State → Option (ℕ × ℕ)
next_issue s = if is_running s.stop && is_calm s.recovery then issue_of s (next_place s) else None

-- requests are done, and the host is told so or the engine has stopped
abbrev pub is_irq_due : State → Bool
is_irq_due s = has Done s.slots && (s.notice || not (is_running s.stop))

-- the host has something to do
unfoldable pub has_work : State → Bool
has_work s = not (is_calm s.recovery) || (not (is_running s.stop) || (is_irq_due s || is_some (next_issue s)))

-- the next step of the recovery prints nothing
abbrev pub is_silent : Recovery → Bool
is_silent Calm = false
is_silent Cleared = false
is_silent recovery = true

-- After a silent step. At the last one the held requests only wait.
abbrev pub recovery_step_at : State → Recovery → State
recovery_step_at s Halted = record s { recovery = Cleared }
recovery_step_at s Discarded = record s { recovery = Cleaned }
recovery_step_at s Cleaned = record s { recovery = Resumed }
recovery_step_at s Resumed = record s { recovery = Calm; slots = no_tasks }
recovery_step_at s recovery = s

unfoldable pub recovery_step : State → State
recovery_step s = recovery_step_at s s.recovery

-- after all silent steps
abbrev pub recovery_steps_at : State → Recovery → State
recovery_steps_at s Calm = s
recovery_steps_at s Cleared = s
recovery_steps_at s Halted = record s { recovery = Cleared }
recovery_steps_at s recovery = record s { recovery = Calm; slots = no_tasks }

unfoldable pub recovery_steps : State → State
recovery_steps s = recovery_steps_at s s.recovery

-- the answer that a stop gives to the request that it names: the fourth bus fault, a flash fault, a task past the end or not of whole units
abbrev pub named_times : State → ℕ → ℕ
named_times s id = slice_index_or s.named (id - 1) 0

abbrev pub is_fault_of : State → Stop → Bool
is_fault_of s (Bus (Some id)) = named_times s id == 4
is_fault_of s (Flash id) = true
is_fault_of s (Range id) = true
is_fault_of s (Align id) = true
is_fault_of s stop = false

-- the engine has stopped, and no answer is to be given before the recovery
abbrev pub is_stopped : State → Bool
is_stopped s = not (is_running s.stop) && (is_calm s.recovery && not (has Done s.slots))
