-- The task of a due command is one that the engine has.
use Rattle.std.proofs.Common.{inl, inr, ◌≡◌, ℕ, ◌==◌, Bool, true, false, cond, ◌&&◌, not, Option, Some, None, find, List, [], ◌∷◌, length, refl}
use Rattle.std.proofs.lemmas.Bool.{and_parts, both_ways, cases_Bool, eqb-true}
use Rattle.std.specs.List.{list_any}
use Rattle.answer_laws.proofs.Tasks.{is_active, is_held, is_live, is_open, live_at, open_slot}
use Rattle.one_trace.proofs.Slots.{any_if, some_at}
use Rattle.storage_machine.specs.Commands.{command_of_tasks, due, execute_or_poll, first_high, hit, id_on, is_calm, is_gone, is_lost, is_none_due, is_running, job_on, next_ready, queue_first}
use Rattle.storage_machine.specs.Jobs.{is_direct, is_high, is_in_range, job_of, may_keep, may_move, phase_blocks}
use Rattle.storage_machine.specs.Slots.{asks, asks_of, first, has, slot_at}
use Rattle.storage_machine.specs.declared.commands.DueCommand.{DueCommand}
use Rattle.storage_machine.specs.declared.commands.DueCommand.TheVariants.{Idle, Address, Params, Direct, Execute, Poll}
use Rattle.storage_machine.specs.declared.slots.Question.{Question}
use Rattle.storage_machine.specs.declared.slots.Question.TheVariants.{Rung as IsRung, Named as IsNamed, Sent as IsSent, Ready as IsReady, Done as IsDone, Collected as IsCollected, Issued as IsIssued, Vacant as IsVacant}
use Rattle.storage_machine.specs.declared.state.Recovery.{Recovery}
use Rattle.storage_machine.specs.declared.state.Standing.{Standing}
use Rattle.storage_machine.specs.declared.state.Standing.TheVariants.{Rung, Named, Sent, Ready, Done, Collected, Held}
use Rattle.storage_machine.specs.declared.state.State.{State}
use Rattle.storage_machine.specs.declared.state.Task.{Task}
use Rattle.storage_model.specs.declared.faults.BusKind.{BusKind}
use Rattle.trace_rules.specs.Lines.{is_address, is_number, is_params, is_target}
use Rattle.trace_rules.specs.Phases.{is_phase_of, most_blocks, moves}

abbrev is_early : Question → Bool
is_early IsRung = true
is_early IsNamed = true
is_early IsSent = true
is_early IsReady = true
is_early question = false

early_open : (question : Question) (standing : Standing) → is_early question ≡ true → asks_of question standing ≡ true → is_open standing ≡ true
early_open IsRung Rung early asked = refl
early_open IsNamed Named early asked = refl
early_open IsSent Sent early asked = refl
early_open IsReady Ready early asked = refl
early_open question standing early asked = absurd (cc)

early_none : (question : Question) → is_early question ≡ true → asks question None ≡ false
early_none IsRung early = refl
early_none IsNamed early = refl
early_none IsSent early = refl
early_none IsReady early = refl
early_none IsDone early = absurd (cc)
early_none IsCollected early = absurd (cc)
early_none IsIssued early = absurd (cc)
early_none IsVacant early = absurd (cc)

slot_open : (question : Question) (slot : Option Task) → is_early question ≡ true → asks question slot ≡ true → open_slot slot ≡ true
slot_open question None early asked = absurd (both_ways (asks question None) (early_none question early) asked)
slot_open question (Some task) early asked = early_open question task.standing early asked

-- the task on the tag, where one was found
abbrev IsFound : List (Option Task) → Option ℕ → Type 0
IsFound slots None = true ≡ true
IsFound slots (Some tag) = open_slot (slot_at slots tag) ≡ true

found_if : (slots : List (Option Task)) (b : Bool) (tag : ℕ) (rest : Option ℕ) → (b ≡ true → open_slot (slot_at slots tag) ≡ true) → IsFound slots rest → IsFound slots (cond b (Some tag) rest)
found_if slots true tag rest here later = here refl
found_if slots false tag rest here later = later

first_found : (question : Question) (slots : List (Option Task)) (order : List ℕ) → is_early question ≡ true → IsFound slots (first question slots order)
first_found question slots [] early = refl
first_found question slots (tag ∷ order) early =
    found_if slots (asks question (slot_at slots tag)) tag (first question slots order) (λ asked. slot_open question (slot_at slots tag) early asked) (first_found question slots order early)

high_found : (s : State) (order : List ℕ) → IsFound s.slots (find (λ tag. asks IsReady (slot_at s.slots tag) && is_high (job_on s tag)) order)
high_found s [] = refl
high_found s (tag ∷ order) =
    found_if s.slots (asks IsReady (slot_at s.slots tag) && is_high (job_on s tag)) tag (find (λ tag. asks IsReady (slot_at s.slots tag) && is_high (job_on s tag)) order)
    (λ h. slot_open IsReady (slot_at s.slots tag) refl ((and_parts (asks IsReady (slot_at s.slots tag)) (is_high (job_on s tag)) h).0)) (high_found s order)

ready_found : (s : State) (high : Option ℕ) → IsFound s.slots high → IsFound s.slots (next_ready s high)
ready_found s None found = first_found IsReady s.slots s.order refl
ready_found s (Some tag) found = found

-- the task of a command, and for a poll any
abbrev pub IsOpen : List (Option Task) → DueCommand → Type 0
IsOpen slots Idle = true ≡ true
IsOpen slots Poll = has IsSent slots ≡ true
IsOpen slots (Address tag) = open_slot (slot_at slots tag) ≡ true
IsOpen slots (Params tag) = open_slot (slot_at slots tag) ≡ true
IsOpen slots (Direct tag) = open_slot (slot_at slots tag) ≡ true
IsOpen slots (Execute tag) = open_slot (slot_at slots tag) ≡ true

open_if : (slots : List (Option Task)) (b : Bool) (one other : DueCommand) → (b ≡ true → IsOpen slots one) → IsOpen slots other → IsOpen slots (cond b one other)
open_if slots true one other left right = left refl
open_if slots false one other left right = right

execute_open : (s : State) (ready : Option ℕ) → IsFound s.slots ready → IsOpen s.slots (execute_or_poll s ready)
execute_open s None found = open_if s.slots (has IsSent s.slots) Poll Idle (λ h. h) refl
execute_open s (Some tag) found = found

ready_open : (s : State) → IsOpen s.slots (execute_or_poll s (next_ready s (first_high s)))
ready_open s = execute_open s (next_ready s (first_high s)) (ready_found s (first_high s) (high_found s s.order))

queue_open : (s : State) (named rung : Option ℕ) → IsFound s.slots named → IsFound s.slots rung → IsOpen s.slots (queue_first s named rung)
queue_open s (Some tag) rung first second = first
queue_open s None (Some tag) first second = open_if s.slots (is_direct (job_on s tag)) (Direct tag) (Params tag) (λ e. second) second
queue_open s None None first second = ready_open s

pub due_open : (s : State) → IsOpen s.slots (due s)
unfolding due
due_open s =
    open_if s.slots (is_running s.stop) (command_of_tasks s) Idle
    (λ running. open_if s.slots s.busy (execute_or_poll s (next_ready s (first_high s))) (queue_first s (first IsNamed s.slots s.order) (first IsRung s.slots s.order))
    (λ busy. ready_open s)
    (queue_open s (first IsNamed s.slots s.order) (first IsRung s.slots s.order) (first_found IsNamed s.slots s.order refl) (first_found IsRung s.slots s.order refl)))
    refl

-- so no recovery is under way

open_active : (standing : Standing) → is_open standing ≡ true → not (is_held standing) ≡ true
open_active Rung e = refl
open_active Named e = refl
open_active Sent e = refl
open_active Ready e = refl
open_active Done e = absurd (cc)
open_active Collected e = absurd (cc)
open_active Held e = absurd (cc)

pub slot_active : (slot : Option Task) → open_slot slot ≡ true → is_active slot ≡ true
slot_active None e = absurd (cc)
slot_active (Some task) e = open_active task.standing e

pub calm_by : (recovery : Recovery) (slots : List (Option Task)) (good : Option Task → Bool) → (is_calm recovery ≡ false → list_any is_active slots ≡ false) → ((slot : Option Task) → good slot ≡ true → is_active slot ≡ true)
    → list_any good slots ≡ true → is_calm recovery ≡ true
calm_by recovery slots good held active some =
    elim (cases_Bool (is_calm recovery)) [
      | inl calm ↦ calm
      | inr busy ↦ absurd (both_ways (list_any is_active slots) (held busy) (any_if good is_active active slots some))
    ]

-- a line's task

pub record IsTask (s : State) (id : ℕ) (command : DueCommand) : Type 0 where
  pub live : list_any (is_live id) s.slots ≡ true
  pub some : is_none_due command ≡ false

pub params_task : (s : State) (id : ℕ) (command : DueCommand) → IsOpen s.slots command → is_params s id command ≡ true → IsTask s id command
params_task s id (Params tag) task h = record { live = live_at id s.slots tag (eqb-true (id_on s tag) id h) task; some = refl }
params_task s id Idle task h = absurd (cc)
params_task s id (Address tag) task h = absurd (cc)
params_task s id (Direct tag) task h = absurd (cc)
params_task s id (Execute tag) task h = absurd (cc)
params_task s id Poll task h = absurd (cc)

pub address_task : (s : State) (id : ℕ) (command : DueCommand) → IsOpen s.slots command → is_address s id command ≡ true → IsTask s id command
address_task s id (Address tag) task h = record { live = live_at id s.slots tag (eqb-true (id_on s tag) id h) task; some = refl }
address_task s id Idle task h = absurd (cc)
address_task s id (Params tag) task h = absurd (cc)
address_task s id (Direct tag) task h = absurd (cc)
address_task s id (Execute tag) task h = absurd (cc)
address_task s id Poll task h = absurd (cc)

-- a phase's, which is inside of the contents
pub record IsPhaseTask (s : State) (id : ℕ) (command : DueCommand) : Type 0 where
  pub task : IsTask s id command
  pub inside : is_in_range (job_of s.plan.jobs id) (length s.base) ≡ true

phase_at : (s : State) (id tag count : ℕ) (kept : Bool) → open_slot (slot_at s.slots tag) ≡ true → moves s tag id count kept ≡ true → (list_any (is_live id) s.slots ≡ true) × (is_in_range (job_of s.plan.jobs id) (length s.base) ≡ true)
phase_at s id tag count kept task h =
    let job = job_of s.plan.jobs id in
    let own = and_parts (id_on s tag == id) (may_move job (most_blocks (hit s) (phase_blocks job)) count && (may_keep s.plan.through job count kept && is_in_range job (length s.base))) h in
    let moved = and_parts (may_move job (most_blocks (hit s) (phase_blocks job)) count) (may_keep s.plan.through job count kept && is_in_range job (length s.base)) own.1 in
    let rest = and_parts (may_keep s.plan.through job count kept) (is_in_range job (length s.base)) moved.1 in
    (live_at id s.slots tag (eqb-true (id_on s tag) id own.0) task, rest.1)

pub phase_task : (s : State) (id count : ℕ) (kept : Bool) (command : DueCommand) → IsOpen s.slots command → is_phase_of s id count kept command ≡ true → IsPhaseTask s id command
phase_task s id count kept (Execute tag) task h =
    let at = phase_at s id tag count kept task ((and_parts (not (is_gone (hit s))) (moves s tag id count kept) h).1) in
    record { task = record { live = at.0; some = refl }; inside = at.1 }
phase_task s id count kept (Direct tag) task h =
    let at = phase_at s id tag count kept task ((and_parts (not (is_lost (hit s))) (moves s tag id count kept) h).1) in
    record { task = record { live = at.0; some = refl }; inside = at.1 }
phase_task s id count kept Idle task h = absurd (cc)
phase_task s id count kept (Params tag) task h = absurd (cc)
phase_task s id count kept (Address tag) task h = absurd (cc)
phase_task s id count kept Poll task h = absurd (cc)

-- and that of a bus fault, where it has one
abbrev pub IsTarget : State → Option ℕ → DueCommand → Type 0
IsTarget s None command = is_none_due command ≡ false
IsTarget s (Some id) command = IsTask s id command

named_task : (s : State) (id : Option ℕ) (tag : ℕ) (command : DueCommand) → is_none_due command ≡ false → open_slot (slot_at s.slots tag) ≡ true → is_number (id_on s tag) id ≡ true → IsTarget s id command
named_task s None tag command some task h = absurd (cc)
named_task s (Some id) tag command some task h = record { live = live_at id s.slots tag (eqb-true (id_on s tag) id h) task; some = some }

pub target_task : (s : State) (kind : BusKind) (id : Option ℕ) (command : DueCommand) → IsOpen s.slots command → is_target s kind id command ≡ true → IsTarget s id command
target_task s kind id Idle task h = absurd (cc)
target_task s kind None Poll task h = refl
target_task s kind (Some id) Poll task h = absurd (cc)
target_task s kind id (Direct tag) task h = named_task s id tag (Direct tag) refl task ((and_parts (is_number (id_on s tag) id) (is_lost (Some kind)) h).0)
target_task s kind id (Params tag) task h = named_task s id tag (Params tag) refl task h
target_task s kind id (Address tag) task h = named_task s id tag (Address tag) refl task h
target_task s kind id (Execute tag) task h = named_task s id tag (Execute tag) refl task h

-- a command that is due has a task
pub due_calm : (s : State) (command : DueCommand) → IsOpen s.slots command → is_none_due command ≡ false → (is_calm s.recovery ≡ false → list_any is_active s.slots ≡ false) → is_calm s.recovery ≡ true
due_calm s Idle task some held = absurd (cc)
due_calm s Poll task some held = calm_by s.recovery s.slots (asks IsSent) held (λ slot asked. slot_active slot (slot_open IsSent slot refl asked)) task
due_calm s (Address tag) task some held = calm_by s.recovery s.slots open_slot held slot_active (some_at open_slot s.slots refl tag task)
due_calm s (Params tag) task some held = calm_by s.recovery s.slots open_slot held slot_active (some_at open_slot s.slots refl tag task)
due_calm s (Direct tag) task some held = calm_by s.recovery s.slots open_slot held slot_active (some_at open_slot s.slots refl tag task)
due_calm s (Execute tag) task some held = calm_by s.recovery s.slots open_slot held slot_active (some_at open_slot s.slots refl tag task)
