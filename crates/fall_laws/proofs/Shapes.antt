-- What an event of the engine makes of its tasks: less is left of them, the queue was polled, the timer ticked, or the engine stopped.
use Rattle.std.proofs.Common.{◌≡◌, ◌<◌, ◌≤◌, ◌+◌, ◌==◌, ◌&&◌, ℕ, length, refl, sym, ◌∙◌, ap, subst, arith, inl, inr}
use Rattle.std.specs.Prelude.{Bool, true, false, not, Option, Some, None, slice_set, cond, Result, Ok, Err, List}
use Rattle.std.specs.Bool.{MatchBool}
use Rattle.std.specs.Option.{option_map}
use Rattle.std.proofs.lemmas.Bool.{false≢true}
use Rattle.host_mem.specs.Memory.{Memory}
use Rattle.bus_link.specs.Link.{is_poll}
use Rattle.bus_link.specs.declared.link.Cause.{Cause}
use Rattle.bus_link.specs.declared.link.Cause.TheVariants.{Bus as BusFault, Response, Dark as NoPower}
use Rattle.bus_link.specs.declared.link.LinkEnd.{LinkEnd}
use Rattle.bus_link.specs.declared.link.LinkEnd.TheVariants.{Bus, Status, Dark}
use Rattle.cmd_words.specs.declared.command.Command.{Command}
use Rattle.cmd_words.specs.declared.command.Command.TheVariants.{Address as StartSector}
use Rattle.cmd_words.specs.Command.{index_of}
use Rattle.cq_desc.specs.declared.direct.DirectDesc.{DirectDesc}
use Rattle.cq_desc.specs.declared.fault.DescFault.TheVariants.{BadAct, NotValid}
use Rattle.cq_desc.specs.declared.task.TaskDesc.{TaskDesc}
use Rattle.cq_desc.specs.Fields.{ACT, ACT_TASK, BLOCK_COUNT, VALID}
use Rattle.cq_desc.specs.Task.{task_of, task_read}
use Rattle.cq_words.proofs.FieldLaws.{field_of-lt}
use Rattle.cq_words.specs.Table.{is_set, number_in}
use Rattle.cq_regs.specs.declared.slots.Progress.{Progress}
use Rattle.cq_regs.specs.declared.slots.Progress.TheVariants.{Rung, Named, Ready, Active}
use Rattle.cq_regs.specs.declared.slots.Ringed.{Ringed}
use Rattle.cq_regs.specs.State.{Registers}
use Rattle.cq_regs.specs.Slots.{advanced, progress_of, without}
use Rattle.cq_regs.specs.Effects.{completed, moved_on}
use Rattle.cq_task.specs.declared.list.TaskList.{TaskList}
use Rattle.cq_task.specs.declared.slot.DataTask.{DataTask}
use Rattle.cq_task.specs.declared.slot.SlotTask.TheVariants.{Data}
use Rattle.cq_task.specs.Meaning.{Means, MeansData, MeansDirect}
use Rattle.cq_task.specs.Place.{chain_of, first_word, is_direct}
use Rattle.cq_schedule.specs.declared.held.HeldTask.{HeldTask}
use Rattle.cq_schedule.specs.Held.{Places, held_at, newly_held, with_block}
use Rattle.cq_engine.specs.declared.did.Did.TheVariants.{Finished, Sent as SentCommand, Stopped}
use Rattle.cq_engine.specs.Words.{command_error, direct_of, execute_of, has_error, is_masked, params_of}
use Rattle.cq_engine.specs.Outcome.{Host, Outcome, responded, stop, stopped_with, with_regs}
use Rattle.cq_engine.specs.After.{addressed, after_address, after_block, after_close, after_command, after_direct, after_execute, after_params, direct_done, direct_heard, executed, finished, led_on, named, phase_ended}
use Rattle.cq_engine.proofs.Places.{set-other, set-same}
use Rattle.cq_engine.proofs.SlotLaws.{advanced-other, completes, without-other, without-same}
use Rattle.fall_laws.proofs.Slots.{advanced_less, blocks_in, moved_in, one_less, tasks_left, todo, todo_at, without_less}

abbrev pub is_bus : Cause → Bool
is_bus (BusFault kind tag) = true
is_bus cause = false

-- an answer that is a fault of the bus
abbrev pub is_struck : {T : Type 0} → Result T LinkEnd → Bool
is_struck (Err (Bus kind)) = true
is_struck answer = false

-- what the engine did leaves less of its tasks, or it stopped, by the bus only where the answer was a fault of that
pub data Shape (host : Host) (struck : Bool) (outcome : Outcome) : Type 0 where
  Works : outcome.host.regs.stopped ≡ host.regs.stopped
      → tasks_left outcome.host.held outcome.host.regs.ring + 1 ≤ tasks_left host.held host.regs.ring → Shape host struck outcome
  Stops : (cause : Cause) → outcome.did ≡ Stopped cause → outcome.host.regs.stopped ≡ true → outcome.host.held ≡ host.held
      → outcome.host.regs.ring ≡ host.regs.ring → outcome.host.regs.coalescing ≡ host.regs.coalescing
      → (is_bus cause ≡ true → struck ≡ true) → Shape host struck outcome

pub along : (host : Host) (struck : Bool) (left after : Outcome) → left ≡ after → Shape host struck after → Shape host struck left
along host struck left after e k = let P : Outcome → Type 0 = λ o. Shape host struck o in subst P (sym e) k

-- a command of a slot
masked_shape : (host : Host) (struck : Bool) (index slot word : ℕ) (next : Host → ℕ → Outcome) (masked : Bool)
    → Shape host struck (next (with_regs host (responded host.regs index word)) word)
    → Shape host struck (led_on host (cond masked (Err (Response word slot)) (Ok word))
    (cond masked (stopped_with (responded host.regs index word) (command_error index slot)) (responded host.regs index word)) next)
masked_shape host struck index slot word next true k = Stops (Response word slot) refl refl refl refl refl (λ e. absurd (false≢true e))
masked_shape host struck index slot word next false k = k

command_shape : (host : Host) (command : Command) (slot : ℕ) (answer : Result ℕ LinkEnd) (next : Host → ℕ → Outcome)
    → ((w : ℕ) (struck : Bool) → Shape host struck (next (with_regs host (responded host.regs (index_of command) w)) w))
    → Shape host (is_struck answer) (after_command host command slot answer next)
command_shape host command slot (Ok word) next k = masked_shape host false (index_of command) slot word next (is_masked host.regs word) (k word false)
command_shape host command slot (Err (Status word)) next k =
    masked_shape host false (index_of command) slot word next (is_masked host.regs word) (k word false)
command_shape host command slot (Err (Bus kind)) next k = Stops (BusFault kind (Some slot)) refl refl refl refl refl (λ e. refl)
command_shape host command slot (Err Dark) next k = Stops NoPower refl refl refl refl refl (λ e. absurd (false≢true e))

-- the task that is read has few blocks
few_if : (word : ℕ) (valid known : Bool) (desc : TaskDesc)
    → cond valid (cond known (Ok (task_of word)) (Err BadAct)) (Err NotValid) ≡ Ok desc → desc.blocks < 65536
few_if word true true desc e =
    let P : TaskDesc → Type 0 = λ d. d.blocks < 65536 in
    let same : task_of word ≡ desc = cc e in
    subst P same (field_of-lt word BLOCK_COUNT.low BLOCK_COUNT.width)
few_if word true false desc e = absurd (cc e)
few_if word false known desc e = absurd (cc e)

few_read : (word : ℕ) (desc : TaskDesc) → task_read word ≡ Ok desc → desc.blocks < 65536
unfolding task_read
few_read word desc e = few_if word (is_set word VALID) (number_in word ACT == ACT_TASK) desc e

means_few_if : (memory : Memory) (wide : Bool) (word chain : ℕ) (task : DataTask) (direct : Bool)
    → MatchBool direct (MeansDirect word (Ok (Data task))) (MeansData memory wide word chain (Ok (Data task))) → task.desc.blocks < 65536
means_few_if memory wide word chain task true m = absurd m
means_few_if memory wide word chain task false m = few_read word task.desc m.0

pub means_few : (memory : Memory) (list : TaskList) (slot : ℕ) (task : DataTask) → Means memory list slot (Ok (Data task)) → task.desc.blocks < 65536
means_few memory list slot task (inl m) = absurd (cc m.1)
means_few memory list slot task (inr m) =
    means_few_if memory list.wide (first_word memory list slot) (chain_of list slot) task (is_direct list slot) m.1

-- a slot that is rung has its task named
pub params_shape : (host : Host) (slot : ℕ) (task : DataTask) (answer : Result ℕ LinkEnd) → length host.held ≡ 32 → slot < 32
    → progress_of host.regs.ring slot ≡ Rung → task.desc.blocks < 65536
    → Shape host (is_struck answer) (after_params host slot task answer)
params_shape host slot task answer long below is few =
    command_shape host (params_of slot task.desc) slot answer (named slot task)
    (λ w struck.
    let inside : slot < length host.held = omega (arith, below, long) in
    let filled = slice_set host.held slot (Some (newly_held task)) in
    let at : held_at filled slot ≡ Some (newly_held task) = set-same host.held slot (Some (newly_held task)) inside in
    let now : todo Named (held_at filled slot) ≡ task.desc.blocks + 4 = ap (todo Named) at in
    Works refl (advanced_less host.held filled host.regs.ring slot Rung below is
    (λ other apart. set-other host.held slot other (Some (newly_held task)) apart) (omega (arith, now, few))))

pub address_shape : (host : Host) (slot : ℕ) (desc : TaskDesc) (answer : Result ℕ LinkEnd) → slot < 32
    → progress_of host.regs.ring slot ≡ Named → Shape host (is_struck answer) (after_address host slot desc answer)
address_shape host slot desc answer below is =
    command_shape host (StartSector desc.start) slot answer (addressed slot desc)
    (λ w struck. Works refl (advanced_less host.held host.held host.regs.ring slot Named below is (λ other apart. refl) (omega arith)))

-- a slot that had something to do is complete
stopped_if : (regs : Registers) (slot : ℕ) (int : Bool) → (completed regs slot int).stopped ≡ regs.stopped
stopped_if regs slot int = (completes regs slot int).1

finished_less : (host : Host) (regs : Registers) (slot : ℕ) (int : Bool) → slot < 32 → 1 ≤ todo_at host.held regs.ring slot
    → tasks_left (slice_set host.held slot None) (completed regs slot int).ring + 1 ≤ tasks_left host.held regs.ring
finished_less host regs slot int below more =
    let P : List Ringed → Type 0 = λ ring. tasks_left (slice_set host.held slot None) ring + 1 ≤ tasks_left host.held regs.ring in
    subst P (sym (completes regs slot int).0)
    (without_less host.held (slice_set host.held slot None) regs.ring slot below (λ other apart. set-other host.held slot other None apart) more)

executed_shape : (host : Host) (regs : Registers) (struck : Bool) (slot : ℕ) (desc : TaskDesc) (error : Bool) → regs.ring ≡ host.regs.ring → regs.stopped ≡ host.regs.stopped
    → slot < 32 → progress_of host.regs.ring slot ≡ Ready
    → Shape host struck (cond error (record { did = Finished slot; host = finished (with_regs host (moved_on regs slot)) slot desc })
    (record { did = SentCommand (execute_of slot desc); host = with_regs host (moved_on regs slot) }))
executed_shape host regs struck slot desc true same_ring same_stop below is =
    let ring = advanced regs.ring slot in
    let held' = slice_set host.held slot None in
    let after : (completed (moved_on regs slot) slot desc.int).ring ≡ without (advanced host.regs.ring slot) slot =
    (completes (moved_on regs slot) slot desc.int).0 ∙ ap (λ r. without (advanced r slot) slot) same_ring in
    let now : todo_at held' (without (advanced host.regs.ring slot) slot) slot ≡ 0 = ap (λ q. todo q (held_at held' slot)) (without-same (advanced host.regs.ring slot) slot) in
    let was : todo_at host.held host.regs.ring slot ≡ todo Ready (held_at host.held slot) = ap (λ q. todo q (held_at host.held slot)) is in
    let P : List Ringed → Type 0 = λ r. tasks_left held' r + 1 ≤ tasks_left host.held host.regs.ring in
    Works (stopped_if (moved_on regs slot) slot desc.int ∙ same_stop) (subst P (sym after)
    (one_less host.held held' host.regs.ring (without (advanced host.regs.ring slot) slot) slot below
    (λ other apart. without-other (advanced host.regs.ring slot) slot other apart ∙ advanced-other host.regs.ring slot other apart)
    (λ other apart. set-other host.held slot other None apart) (omega (arith, now, was))))
executed_shape host regs struck slot desc false same_ring same_stop below is =
    let P : List Ringed → Type 0 = λ r. tasks_left host.held (advanced r slot) + 1 ≤ tasks_left host.held host.regs.ring in
    Works same_stop (subst P (sym same_ring) (advanced_less host.held host.held host.regs.ring slot Ready below is (λ other apart. refl) (omega arith)))

pub execute_shape : (host : Host) (slot : ℕ) (desc : TaskDesc) (answer : Result ℕ LinkEnd) → slot < 32
    → progress_of host.regs.ring slot ≡ Ready → Shape host (is_struck answer) (after_execute host slot desc answer)
execute_shape host slot desc answer below is =
    command_shape host (execute_of slot desc) slot answer (executed slot desc)
    (λ w struck. executed_shape host (responded host.regs (index_of (execute_of slot desc)) w) struck slot desc (has_error w) refl refl below is)

-- a slot is idle
rung_more : (held : Places) (ring : List Ringed) (slot : ℕ) (p : Progress) → progress_of ring slot ≡ p → 1 ≤ todo p (held_at held slot)
    → 1 ≤ todo_at held ring slot
rung_more held ring slot p is more =
    let P : Progress → Type 0 = λ p. 1 ≤ todo p (held_at held slot) in
    subst P (sym is) more

pub idle_less : (host : Host) (slot : ℕ) (ring' : List Ringed) → ring' ≡ without host.regs.ring slot → slot < 32
    → progress_of host.regs.ring slot ≡ Rung → tasks_left host.held ring' + 1 ≤ tasks_left host.held host.regs.ring
idle_less host slot ring' e below is =
    let P : List Ringed → Type 0 = λ ring. tasks_left host.held ring + 1 ≤ tasks_left host.held host.regs.ring in
    subst P (sym e) (without_less host.held host.held host.regs.ring slot below (λ other apart. refl)
    (rung_more host.held host.regs.ring slot Rung is (omega arith)))

done_shape : (host : Host) (regs : Registers) (struck : Bool) (slot : ℕ) (desc : DirectDesc) → regs.ring ≡ host.regs.ring → regs.stopped ≡ host.regs.stopped
    → slot < 32 → progress_of host.regs.ring slot ≡ Rung → Shape host struck (direct_done slot desc (with_regs host regs))
done_shape host regs struck slot desc ring stopped below is =
    Works (stopped_if regs slot desc.int ∙ stopped)
    (idle_less host slot (completed regs slot desc.int).ring ((completes regs slot desc.int).0 ∙ ap (λ r. without r slot) ring) below is)

heard_shape : (host : Host) (struck : Bool) (slot : ℕ) (desc : DirectDesc) (word : ℕ) (stops : Bool) → slot < 32 → progress_of host.regs.ring slot ≡ Rung
    → Shape host struck (cond stops
    (stop (with_regs host (record (responded host.regs (index_of (direct_of desc)) word) { direct_response = word })) (command_error (index_of (direct_of desc)) slot) (Response word slot))
    (direct_done slot desc (with_regs host (record (responded host.regs (index_of (direct_of desc)) word) { direct_response = word }))))
heard_shape host struck slot desc word true below is = Stops (Response word slot) refl refl refl refl refl (λ e. absurd (false≢true e))
heard_shape host struck slot desc word false below is =
    done_shape host (record (responded host.regs (index_of (direct_of desc)) word) { direct_response = word }) struck slot desc refl refl below is

ended_if : (host : Host) (struck : Bool) (slot : ℕ) (desc : DirectDesc) (word : ℕ) (silent : Bool) → slot < 32 → progress_of host.regs.ring slot ≡ Rung
    → Shape host struck (cond silent (direct_done slot desc host) (direct_heard slot desc host word))
ended_if host struck slot desc word true below is = done_shape host host.regs struck slot desc refl refl below is
ended_if host struck slot desc word false below is =
    heard_shape host struck slot desc word (is_masked host.regs word && not (is_poll (direct_of desc))) below is

pub direct_shape : (host : Host) (slot : ℕ) (desc : DirectDesc) (answer : Result ℕ LinkEnd) → slot < 32 → progress_of host.regs.ring slot ≡ Rung
    → Shape host (is_struck answer) (after_direct host slot desc answer)
direct_shape host slot desc (Ok word) below is = ended_if host false slot desc word (desc.resp == 0) below is
direct_shape host slot desc (Err (Status word)) below is = ended_if host false slot desc word (desc.resp == 0) below is
direct_shape host slot desc (Err (Bus kind)) below is = Stops (BusFault kind (Some slot)) refl refl refl refl refl (λ e. refl)
direct_shape host slot desc (Err Dark) below is = Stops NoPower refl refl refl refl refl (λ e. absurd (false≢true e))

-- the end of a data phase
phase_if : (host : Host) (slot word : ℕ) (desc : TaskDesc) (masked : Bool) → slot < 32 → progress_of host.regs.ring slot ≡ Active
    → Shape host false (phase_ended host slot desc (cond masked (Err (Response word slot)) (Ok word)))
phase_if host slot word desc true below is = Stops (Response word slot) refl refl refl refl refl (λ e. absurd (false≢true e))
phase_if host slot word desc false below is =
    Works (stopped_if host.regs slot desc.int)
    (finished_less host host.regs slot desc.int below (rung_more host.held host.regs.ring slot Active is (omega arith)))

pub close_shape : (host : Host) (slot : ℕ) (desc : TaskDesc) (answer : Result ℕ LinkEnd) → slot < 32 → progress_of host.regs.ring slot ≡ Active
    → Shape host (is_struck answer) (after_close host slot desc answer)
close_shape host slot desc (Ok word) below is = phase_if host slot word desc (is_masked host.regs word) below is
close_shape host slot desc (Err (Status word)) below is = phase_if host slot word desc (is_masked host.regs word) below is
close_shape host slot desc (Err (Bus kind)) below is = Stops (BusFault kind (Some slot)) refl refl refl refl refl (λ e. refl)
close_shape host slot desc (Err Dark) below is = Stops NoPower refl refl refl refl refl (λ e. absurd (false≢true e))

-- a block more has moved
block_less : (place : Option HeldTask) → moved_in place < blocks_in place → todo Active (option_map with_block place) + 1 ≤ todo Active place
block_less None h = absurd (omega (arith, h))
block_less (Some held) h = omega (arith, h)

pub block_shape : (host : Host) (slot : ℕ) (desc : TaskDesc) (answer : Result (Unit {0}) LinkEnd) → length host.held ≡ 32 → slot < 32
    → progress_of host.regs.ring slot ≡ Active → moved_in (held_at host.held slot) < blocks_in (held_at host.held slot)
    → Shape host (is_struck answer) (after_block host slot desc answer)
block_shape host slot desc (Ok _) long below is more =
    let inside : slot < length host.held = omega (arith, below, long) in
    let place = option_map with_block (held_at host.held slot) in
    let held' = slice_set host.held slot place in
    let now : todo_at held' host.regs.ring slot ≡ todo Active place = ap (λ q. todo q (held_at held' slot)) is ∙ ap (todo Active) (set-same host.held slot place inside) in
    let was : todo_at host.held host.regs.ring slot ≡ todo Active (held_at host.held slot) = ap (λ q. todo q (held_at host.held slot)) is in
    let less = block_less (held_at host.held slot) more in
    Works refl (one_less host.held held' host.regs.ring host.regs.ring slot below (λ other apart. refl)
    (λ other apart. set-other host.held slot other place apart) (omega (arith, now, was, less)))
block_shape host slot desc (Err (Status word)) long below is more = phase_if host slot word desc (is_masked host.regs word) below is
block_shape host slot desc (Err (Bus kind)) long below is more = Stops (BusFault kind (Some slot)) refl refl refl refl refl (λ e. refl)
block_shape host slot desc (Err Dark) long below is more = Stops NoPower refl refl refl refl refl (λ e. absurd (false≢true e))
