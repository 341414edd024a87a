-- An event does something, unless the engine rests or the timer ticks.
use Rattle.std.proofs.Common.{◌≡◌, ◌⊎◌, ◌==◌, ◌&&◌, ℕ, refl, sym, ap, subst, inl, inr}
use Rattle.std.specs.Prelude.{◌↔◌, Bool, true, false, not, cond, [], Some, None, Result, Ok, Err}
use Rattle.std.specs.Bool.{MatchBool}
use Rattle.host_mem.specs.Memory.{Memory}
use Rattle.bus_link.specs.Link.{Call, is_poll}
use Rattle.bus_link.specs.declared.link.Cause.{Cause}
use Rattle.bus_link.specs.declared.link.LinkEnd.{LinkEnd}
use Rattle.cmd_words.specs.declared.command.Command.{Command}
use Rattle.cmd_words.specs.declared.command.Command.TheVariants.{Address}
use Rattle.cmd_words.specs.Command.{index_of}
use Rattle.cq_desc.specs.declared.direct.DirectDesc.{DirectDesc}
use Rattle.cq_desc.specs.declared.task.TaskDesc.{TaskDesc}
use Rattle.cq_task.specs.declared.slot.DataTask.{DataTask}
use Rattle.cq_task.specs.declared.slot.DropCause.{DropCause}
use Rattle.cq_task.specs.declared.slot.SlotTask.{SlotTask}
use Rattle.cq_task.specs.declared.slot.SlotTask.TheVariants.{Direct as DirectTask, Data}
use Rattle.cq_regs.specs.State.{Registers}
use Rattle.cq_regs.specs.Slots.{IsRing}
use Rattle.cq_schedule.specs.declared.rules.Due.{Due}
use Rattle.cq_schedule.specs.declared.rules.Due.TheVariants.{Rest, Block as NextBlock, Close, Address as AddressNext, Serve, Execute, Poll, Tick}
use Rattle.cq_schedule.specs.Held.{held_at}
use Rattle.cq_schedule.specs.Meaning.{rests}
use Rattle.cq_schedule.proofs.Idle.{idle_exactly}
use Rattle.piece_data.specs.Data.{block_of}
use Rattle.cq_engine.specs.declared.did.Did.{Did}
use Rattle.cq_engine.specs.declared.did.Did.TheVariants.{Idle}
use Rattle.cq_engine.specs.Words.{direct_of, execute_of, has_error, is_masked, params_of, poll_of}
use Rattle.cq_engine.specs.Outcome.{Host, Outcome, heard, judged, with_regs, word_in}
use Rattle.cq_engine.specs.After.{addressed, after_block, after_close, after_command, direct_ended, direct_heard, executed, led_on, named, phase_ended, polled}
use Rattle.cq_engine.specs.Event.{Acts, Does, Gives, Serves, Takes}
use Rattle.cq_engine.proofs.Events.{some_task}

-- something was done
abbrev pub IsBusy : Did → Type 0
IsBusy Idle = ⊥
IsBusy _ = Unit {0}

led_busy : (host : Host) (word : Result ℕ Cause) (regs : Registers) (next : Host → ℕ → Outcome)
    → ((h : Host) (w : ℕ) → IsBusy (next h w).did) → IsBusy (led_on host word regs next).did
led_busy host (Ok word) regs next b = b (with_regs host regs) word
led_busy host (Err cause) regs next b = tt

command_busy : (host : Host) (command : Command) (slot : ℕ) (answer : Result ℕ LinkEnd) (next : Host → ℕ → Outcome)
    → ((h : Host) (w : ℕ) → IsBusy (next h w).did) → IsBusy (after_command host command slot answer next).did
command_busy host command slot answer next b =
    led_busy host (judged host.regs slot (word_in answer (Some slot))) (heard host.regs (index_of command) slot (word_in answer (Some slot))) next b

either_busy : (b : Bool) (one other : Outcome) → IsBusy one.did → IsBusy other.did → IsBusy (cond b one other).did
either_busy true one other h k = h
either_busy false one other h k = k

executed_busy : (slot : ℕ) (desc : TaskDesc) (host : Host) (word : ℕ) → IsBusy (executed slot desc host word).did
executed_busy slot desc host word = either_busy (has_error word) _ _ tt tt

polled_busy : (host : Host) (poll : Command) (word : Result ℕ Cause) → IsBusy (polled host poll word).did
polled_busy host poll (Ok word) = tt
polled_busy host poll (Err cause) = tt

heard_busy : (slot : ℕ) (desc : DirectDesc) (host : Host) (word : ℕ) → IsBusy (direct_heard slot desc host word).did
heard_busy slot desc host word = either_busy (is_masked host.regs word && not (is_poll (direct_of desc))) _ _ tt tt

ended_busy : (host : Host) (slot : ℕ) (desc : DirectDesc) (word : Result ℕ Cause) → IsBusy (direct_ended host slot desc word).did
ended_busy host slot desc (Ok word) = either_busy (desc.resp == 0) _ _ tt (heard_busy slot desc host word)
ended_busy host slot desc (Err cause) = tt

phase_busy : (host : Host) (slot : ℕ) (desc : TaskDesc) (word : Result ℕ Cause) → IsBusy (phase_ended host slot desc word).did
phase_busy host slot desc (Ok word) = tt
phase_busy host slot desc (Err cause) = tt

close_busy : (host : Host) (slot : ℕ) (desc : TaskDesc) (answer : Result ℕ LinkEnd) → IsBusy (after_close host slot desc answer).did
close_busy host slot desc answer = phase_busy host slot desc (judged host.regs slot (word_in answer (Some slot)))

block_busy : (host : Host) (slot : ℕ) (desc : TaskDesc) (answer : Result (Unit {0}) LinkEnd) → IsBusy (after_block host slot desc answer).did
block_busy host slot desc (Ok _) = tt
block_busy host slot desc (Err end) = close_busy host slot desc (Err end)

along : (left after : Outcome) → left ≡ after → IsBusy after.did → IsBusy left.did
along left after e b = let P : Outcome → Type 0 = λ o. IsBusy o.did in subst P (sym e) b

serves_busy : {L : Type 0} (made : L → Call → L → Type 0) (old new : L) (host : Host) (slot : ℕ) (outcome : Outcome)
    (meaning : Result SlotTask DropCause) → Serves made old new host slot outcome meaning → IsBusy outcome.did
serves_busy made old new host slot outcome (Ok (DirectTask desc)) d =
    along outcome _ d.outcome (ended_busy host slot desc (word_in d.answer (Some slot)))
serves_busy made old new host slot outcome (Ok (Data task)) d =
    along outcome _ d.outcome (command_busy host (params_of slot task.desc) slot d.answer (named slot task) (λ h w. tt))
serves_busy made old new host slot outcome (Err why) d = along outcome _ d.outcome tt

moves_busy : {L : Type 0} (made : L → Call → L → Type 0) (old new : L) (host : Host) (memory memory' : Memory) (slot k : ℕ)
    (outcome : Outcome) (task : DataTask) (read : Bool)
    → MatchBool read (Takes made old new task.pieces k memory memory' outcome (after_block host slot task.desc))
    (Gives made old new (block_of memory task.pieces k) outcome (after_block host slot task.desc) × (memory' ≡ memory))
    → IsBusy outcome.did
moves_busy made old new host memory memory' slot k outcome task true d = along outcome _ d.outcome (block_busy host slot task.desc d.answer)
moves_busy made old new host memory memory' slot k outcome task false d = along outcome _ d.0.outcome (block_busy host slot task.desc d.0.answer)

not_idle : (did : Did) → IsBusy did → did ≡ Idle → ⊥
not_idle did b e = subst IsBusy e b

idle_due : {L : Type 0} (made : L → Call → L → Type 0) (old new : L) (host : Host) (memory memory' : Memory) (outcome : Outcome)
    (due : Due) → Does made old new host memory memory' outcome due → outcome.did ≡ Idle → (due ≡ Rest) ⊎ (due ≡ Tick)
idle_due made old new host memory memory' outcome Rest d e = inl refl
idle_due made old new host memory memory' outcome Tick d e = inr refl
idle_due made old new host memory memory' outcome (Serve slot) d e =
    absurd (not_idle outcome.did (serves_busy made old new host slot outcome d.0.meaning d.0.serves) e)
idle_due made old new host memory memory' outcome (AddressNext slot) d e =
    let t = some_task (held_at host.held slot) _ d.0 in
    absurd (not_idle outcome.did (along outcome _ t.1.outcome
    (command_busy host (Address t.0.task.desc.start) slot t.1.answer (addressed slot t.0.task.desc) (λ h w. tt))) e)
idle_due made old new host memory memory' outcome (Execute slot) d e =
    let t = some_task (held_at host.held slot) _ d.0 in
    absurd (not_idle outcome.did (along outcome _ t.1.outcome
    (command_busy host (execute_of slot t.0.task.desc) slot t.1.answer (executed slot t.0.task.desc) (executed_busy slot t.0.task.desc))) e)
idle_due made old new host memory memory' outcome Poll d e =
    absurd (not_idle outcome.did (along outcome _ d.0.outcome (polled_busy host (poll_of host.regs) (word_in d.0.answer None))) e)
idle_due made old new host memory memory' outcome (NextBlock slot k) d e =
    let t = some_task (held_at host.held slot) _ d in
    absurd (not_idle outcome.did (moves_busy made old new host memory memory' slot k outcome t.0.task t.0.task.desc.read t.1) e)
idle_due made old new host memory memory' outcome (Close slot) d e =
    let t = some_task (held_at host.held slot) _ d.0 in
    absurd (not_idle outcome.did (along outcome _ t.1.outcome (close_busy host slot t.0.task.desc t.1.answer)) e)

due_idle : {L : Type 0} (made : L → Call → L → Type 0) (old new : L) (host : Host) (memory memory' : Memory) (outcome : Outcome)
    (due : Due) → Does made old new host memory memory' outcome due → (due ≡ Rest) ⊎ (due ≡ Tick) → outcome.did ≡ Idle
due_idle made old new host memory memory' outcome due d (inl e) =
    let P : Due → Type 0 = λ v. Does made old new host memory memory' outcome v in
    ap (λ (o : Outcome). o.did) (subst P e d).0.outcome
due_idle made old new host memory memory' outcome due d (inr e) =
    let P : Due → Type 0 = λ v. Does made old new host memory memory' outcome v in
    ap (λ (o : Outcome). o.did) (subst P e d).0.outcome

-- nothing is done just where the engine rests or no slot is rung
pub idle_acts : {L : Type 0} (made : L → Call → L → Type 0) (old new : L) (host : Host) (memory memory' : Memory) (outcome : Outcome)
    → IsRing host.regs.ring → Acts made old new host memory memory' outcome
    → (outcome.did ≡ Idle) ↔ ((rests host.regs ≡ true) ⊎ (host.regs.ring ≡ []))
idle_acts made old new host memory memory' outcome sound a =
    let i = idle_exactly host.held host.regs memory a.due sound a.is_due in (
      λ e. i.0 (idle_due made old new host memory memory' outcome a.due a.does e),
      λ idle. due_idle made old new host memory memory' outcome a.due a.does (i.1 idle),
    )
