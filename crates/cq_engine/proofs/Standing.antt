-- What each step of an event makes of the slots, of the completed tasks and of what a driver set up.
use Rattle.std.proofs.Common.{◌≡◌, ◌<◌, ◌==◌, ◌&&◌, ℕ, refl, sym, ◌∙◌, subst}
use Rattle.std.specs.Prelude.{◌^◌, Bool, true, false, not, cond, List, [], ◌∷◌, Some, None, Result, Ok, Err}
use Rattle.std.specs.Bool.{MatchBool}
use Rattle.std.specs.Int.RustNames.{bit_or}
use Rattle.host_mem.specs.Memory.{Memory}
use Rattle.bus_link.specs.Link.{Call, is_poll}
use Rattle.bus_link.specs.declared.link.Cause.{Cause}
use Rattle.bus_link.specs.declared.link.Cause.TheVariants.{Response}
use Rattle.bus_link.specs.declared.link.LinkEnd.{LinkEnd}
use Rattle.cmd_words.specs.declared.command.Command.{Command}
use Rattle.cmd_words.specs.declared.command.Command.TheVariants.{Address}
use Rattle.cmd_words.specs.Command.{index_of}
use Rattle.cq_desc.specs.declared.direct.DirectDesc.{DirectDesc}
use Rattle.cq_desc.specs.declared.task.TaskDesc.{TaskDesc}
use Rattle.cq_task.specs.declared.slot.DataTask.{DataTask}
use Rattle.cq_task.specs.declared.slot.DropCause.{DropCause}
use Rattle.cq_task.specs.declared.slot.SlotTask.{SlotTask}
use Rattle.cq_task.specs.declared.slot.SlotTask.TheVariants.{Direct as DirectTask, Data}
use Rattle.cq_regs.specs.declared.slots.Progress.TheVariants.{Rung, Named, Ready}
use Rattle.cq_regs.specs.declared.slots.Ringed.{Ringed}
use Rattle.cq_regs.specs.State.{Registers}
use Rattle.cq_regs.specs.Slots.{advanced, has_bit, next, progress_of, without}
use Rattle.cq_regs.specs.Coalesce.{counted, reaches, restarted, ticked}
use Rattle.cq_regs.specs.Effects.{completed, counted_in, moved_on, noticed_if, notified, raised, task_complete, ticked_in, with_coalescing}
use Rattle.cq_schedule.specs.declared.rules.Due.{Due}
use Rattle.cq_schedule.specs.declared.rules.Due.TheVariants.{Rest, Block as NextBlock, Close, Address as AddressNext, Serve, Execute, Poll, Tick}
use Rattle.cq_schedule.specs.Held.{held_at}
use Rattle.cq_schedule.specs.Meaning.{HasItsSlot}
use Rattle.piece_data.specs.Data.{block_of}
use Rattle.cq_engine.specs.declared.did.Did.TheVariants.{Sent, Finished}
use Rattle.cq_engine.specs.Words.{command_error, data_error, direct_of, execute_of, has_error, is_masked, params_of, poll_of}
use Rattle.cq_engine.specs.Outcome.{Host, Outcome, heard, judged, responded, stop, stopped_with, with_regs, word_in}
use Rattle.cq_engine.specs.After.{addressed, after_block, after_command, direct_done, direct_ended, direct_heard, executed, finished, led_on, named, phase_ended, polled}
use Rattle.cq_engine.specs.Event.{Acts, Does, Gives, Serves, Takes}
use Rattle.cq_engine.specs.Standings.{MovesBy, completed_by, set_up_of}
use Rattle.cq_engine.proofs.Events.{some_task}

pub record Follows (old : Registers) (outcome : Outcome) : Type 0 where
  pub slots : MovesBy outcome.did old outcome.host.regs
  pub done : outcome.host.regs.completed ≡ completed_by outcome.did old.completed
  pub set_up : set_up_of outcome.host.regs ≡ set_up_of old

-- ---- notices

record IsQuiet (old new : Registers) : Type 0 where
  pub ring : new.ring ≡ old.ring
  pub done : new.completed ≡ old.completed
  pub set_up : set_up_of new ≡ set_up_of old

itself : (regs : Registers) → IsQuiet regs regs
itself regs = record { ring = refl; done = refl; set_up = refl }

either : (regs first second : Registers) (b : Bool) → IsQuiet regs first → IsQuiet regs second → IsQuiet regs (cond b first second)
either regs first second true s t = s
either regs first second false s t = t

noticed : (regs : Registers) (due : Bool) → IsQuiet regs (noticed_if regs due)
noticed regs due =
    either regs (record (raised regs task_complete) { coalescing = restarted regs.coalescing }) regs (due && has_bit regs.status_enable 1)
    (record { ring = refl; done = refl; set_up = refl }) (itself regs)

counts : (regs : Registers) → IsQuiet regs (counted_in regs)
counts regs =
    let c = counted regs.coalescing in
    let s = noticed (with_coalescing regs c) (reaches c.counter c.threshold) in
    record { ring = s.ring; done = s.done; set_up = s.set_up }

notifies : (regs : Registers) (int : Bool) → IsQuiet regs (notified regs int)
notifies regs int =
    either regs (raised regs task_complete) (cond regs.coalescing.enabled (counted_in regs) regs) int (record { ring = refl; done = refl; set_up = refl })
    (either regs (counted_in regs) regs regs.coalescing.enabled (counts regs) (itself regs))

ticked_set_up : (regs : Registers) (none : Bool) (timer : ℕ)
    → set_up_of (with_coalescing regs (cond none regs.coalescing (record regs.coalescing { timer = timer }))) ≡ set_up_of regs
ticked_set_up regs true timer = refl
ticked_set_up regs false timer = refl

ticks : (regs : Registers) → IsQuiet regs (ticked_in regs)
ticks regs =
    let c = ticked regs.coalescing in
    let s = noticed (with_coalescing regs c) (reaches c.timer c.timeout) in
    either regs regs (noticed_if (with_coalescing regs c) (reaches c.timer c.timeout)) (regs.coalescing.counter == 0) (itself regs)
    (record { ring = s.ring; done = s.done; set_up = s.set_up ∙ ticked_set_up regs (regs.coalescing.counter == 0) _ })

-- ---- tasks that are over

completes : (regs : Registers) (slot : ℕ) (int : Bool)
    → IsQuiet (record regs { ring = without regs.ring slot; completed = bit_or regs.completed (2 ^ slot) }) (completed regs slot int)
completes regs slot int = notifies (record regs { ring = without regs.ring slot; completed = bit_or regs.completed (2 ^ slot) }) int

finished_follows : (host : Host) (slot : ℕ) (desc : TaskDesc) → Follows host.regs (record { did = Finished slot; host = finished host slot desc })
finished_follows host slot desc =
    let c = completes host.regs slot desc.int in record { slots = c.ring; done = c.done; set_up = c.set_up }

done_follows : (host : Host) (slot : ℕ) (desc : DirectDesc) → Follows host.regs (direct_done slot desc host)
done_follows host slot desc =
    let c = completes host.regs slot desc.int in record { slots = c.ring; done = c.done; set_up = c.set_up }

left_out : (same : Bool) (slot : ℕ) (r : Ringed) (ring : List Ringed) → (r.slot == slot) ≡ same
    → without (advanced ring slot) slot ≡ without ring slot
    → without (advanced (r ∷ ring) slot) slot ≡ without (r ∷ ring) slot
left_out true slot r ring e h = rw (e, e, h) refl
left_out false slot r ring e h = rw (e, e, h) refl

-- a slot that moved on and is then idle
without-advanced : (ring : List Ringed) (slot : ℕ) → without (advanced ring slot) slot ≡ without ring slot
without-advanced [] slot = refl
without-advanced (r ∷ ring) slot = left_out (r.slot == slot) slot r ring refl (without-advanced ring slot)

-- ---- the answer of a command

stopped_follows : (host : Host) (information : ℕ) (cause : Cause) → Follows host.regs (stop host information cause)
stopped_follows host information cause = record { slots = refl; done = refl; set_up = refl }

masked_follows : (host : Host) (index slot word : ℕ) (next : Host → ℕ → Outcome) (masked : Bool)
    → Follows host.regs (next (with_regs host (responded host.regs index word)) word)
    → Follows host.regs (led_on host (cond masked (Err (Response word slot)) (Ok word))
    (cond masked (stopped_with (responded host.regs index word) (command_error index slot)) (responded host.regs index word)) next)
masked_follows host index slot word next true k = record { slots = refl; done = refl; set_up = refl }
masked_follows host index slot word next false k = k

word_follows : (host : Host) (index slot : ℕ) (word : Result ℕ Cause) (next : Host → ℕ → Outcome)
    → ((w : ℕ) → Follows host.regs (next (with_regs host (responded host.regs index w)) w))
    → Follows host.regs (led_on host (judged host.regs slot word) (heard host.regs index slot word) next)
word_follows host index slot (Ok word) next k = masked_follows host index slot word next (is_masked host.regs word) (k word)
word_follows host index slot (Err cause) next k = record { slots = refl; done = refl; set_up = refl }

command_follows : (host : Host) (command : Command) (slot : ℕ) (answer : Result ℕ LinkEnd) (next : Host → ℕ → Outcome)
    → ((w : ℕ) → Follows host.regs (next (with_regs host (responded host.regs (index_of command) w)) w))
    → Follows host.regs (after_command host command slot answer next)
command_follows host command slot answer next k = word_follows host (index_of command) slot (word_in answer (Some slot)) next k

named_follows : (host : Host) (slot : ℕ) (task : DataTask) (index w : ℕ) → slot < 32 → progress_of host.regs.ring slot ≡ Rung
    → Follows host.regs (named slot task (with_regs host (responded host.regs index w)) w)
named_follows host slot task index w below rung =
    record { slots = record { below = below; was = rung; ring = refl }; done = refl; set_up = refl }

addressed_follows : (host : Host) (slot : ℕ) (desc : TaskDesc) (index w : ℕ) → slot < 32 → progress_of host.regs.ring slot ≡ Named
    → Follows host.regs (addressed slot desc (with_regs host (responded host.regs index w)) w)
addressed_follows host slot desc index w below is =
    record { slots = record { slot = slot; moved = record { below = below; was = is; ring = refl } }; done = refl; set_up = refl }

executed_if : (host : Host) (slot : ℕ) (desc : TaskDesc) (index w : ℕ) (error : Bool) → slot < 32 → progress_of host.regs.ring slot ≡ Ready
    → Follows host.regs (cond error
    (record { did = Finished slot; host = finished (with_regs host (moved_on (responded host.regs index w) slot)) slot desc })
    (record { did = Sent (execute_of slot desc); host = with_regs host (moved_on (responded host.regs index w) slot) }))
executed_if host slot desc index w true below is =
    let f = finished_follows (with_regs host (moved_on (responded host.regs index w) slot)) slot desc in
    record { slots = f.slots ∙ without-advanced host.regs.ring slot; done = f.done; set_up = f.set_up }
executed_if host slot desc index w false below is =
    record { slots = record { below = below; was = is; ring = refl }; done = refl; set_up = refl }

polled_follows : (host : Host) (word : Result ℕ Cause) → Follows host.regs (polled host (poll_of host.regs) word)
polled_follows host (Err cause) = stopped_follows host (command_error (index_of (poll_of host.regs)) 0) cause
polled_follows host (Ok word) = record { slots = refl; done = refl; set_up = refl }

stops_if : (old : Registers) (host : Host) (slot information word : ℕ) (desc : DirectDesc) (masked : Bool)
    → Follows old (stop host information (Response word slot)) → Follows old (direct_done slot desc host)
    → Follows old (cond masked (stop host information (Response word slot)) (direct_done slot desc host))
stops_if old host slot information word desc true s d = s
stops_if old host slot information word desc false s d = d

heard_follows : (host : Host) (slot word : ℕ) (desc : DirectDesc) → Follows host.regs (direct_heard slot desc host word)
heard_follows host slot word desc =
    let regs = responded host.regs (index_of (direct_of desc)) word in
    let taken = with_regs host (record regs { direct_response = word }) in
    let d = done_follows taken slot desc in
    stops_if host.regs taken slot (command_error (index_of (direct_of desc)) slot) word desc
    (is_masked host.regs word && not (is_poll (direct_of desc)))
    (record { slots = refl; done = refl; set_up = refl }) (record { slots = d.slots; done = d.done; set_up = d.set_up })

ended_if : (host : Host) (slot word : ℕ) (desc : DirectDesc) (none : Bool)
    → Follows host.regs (cond none (direct_done slot desc host) (direct_heard slot desc host word))
ended_if host slot word desc true = done_follows host slot desc
ended_if host slot word desc false = heard_follows host slot word desc

ended_follows : (host : Host) (slot : ℕ) (desc : DirectDesc) (word : Result ℕ Cause) → Follows host.regs (direct_ended host slot desc word)
ended_follows host slot desc (Ok word) = ended_if host slot word desc (desc.resp == 0)
ended_follows host slot desc (Err cause) = stopped_follows host (command_error (index_of (direct_of desc)) slot) cause

phase_follows : (host : Host) (slot : ℕ) (desc : TaskDesc) (word : Result ℕ Cause) → Follows host.regs (phase_ended host slot desc word)
phase_follows host slot desc (Ok word) = finished_follows host slot desc
phase_follows host slot desc (Err cause) = stopped_follows host (data_error (index_of (execute_of slot desc)) slot) cause

block_follows : (host : Host) (slot : ℕ) (desc : TaskDesc) (answer : Result (Unit {0}) LinkEnd) → Follows host.regs (after_block host slot desc answer)
block_follows host slot desc (Ok _) = record { slots = refl; done = refl; set_up = refl }
block_follows host slot desc (Err end) = phase_follows host slot desc (judged host.regs slot (word_in (Err end) (Some slot)))

-- ---- an event

along : (old : Registers) (left after : Outcome) → left ≡ after → Follows old after → Follows old left
along old left after e f = subst (Follows old) (sym e) f

serves_follow : {L : Type 0} (made : L → Call → L → Type 0) (old new : L) (host : Host) (slot : ℕ) (outcome : Outcome)
    (meaning : Result SlotTask DropCause) → slot < 32 → progress_of host.regs.ring slot ≡ Rung
    → Serves made old new host slot outcome meaning → Follows host.regs outcome
serves_follow made old new host slot outcome (Ok (DirectTask desc)) below rung d =
    along host.regs outcome _ d.outcome (ended_follows host slot desc (word_in d.answer (Some slot)))
serves_follow made old new host slot outcome (Ok (Data task)) below rung d =
    along host.regs outcome _ d.outcome
    (command_follows host (params_of slot task.desc) slot d.answer (named slot task)
    (λ w. named_follows host slot task (index_of (params_of slot task.desc)) w below rung))
serves_follow made old new host slot outcome (Err why) below rung d =
    along host.regs outcome _ d.outcome (record { slots = refl; done = refl; set_up = refl })

moves_follow : {L : Type 0} (made : L → Call → L → Type 0) (old new : L) (host : Host) (memory memory' : Memory) (slot k : ℕ)
    (outcome : Outcome) (task : DataTask) (read : Bool)
    → MatchBool read (Takes made old new task.pieces k memory memory' outcome (after_block host slot task.desc))
    (Gives made old new (block_of memory task.pieces k) outcome (after_block host slot task.desc) × (memory' ≡ memory))
    → Follows host.regs outcome
moves_follow made old new host memory memory' slot k outcome task true d =
    along host.regs outcome _ d.outcome (block_follows host slot task.desc d.answer)
moves_follow made old new host memory memory' slot k outcome task false d =
    along host.regs outcome _ d.0.outcome (block_follows host slot task.desc d.0.answer)

does_follow : {L : Type 0} (made : L → Call → L → Type 0) (old new : L) (host : Host) (memory memory' : Memory) (outcome : Outcome)
    (due : Due) → HasItsSlot host.held host.regs due → Does made old new host memory memory' outcome due → Follows host.regs outcome
does_follow made old new host memory memory' outcome Rest i d =
    along host.regs outcome _ d.0.outcome (record { slots = refl; done = refl; set_up = refl })
does_follow made old new host memory memory' outcome Tick i d =
    let t = ticks host.regs in
    along host.regs outcome _ d.0.outcome (record { slots = t.ring; done = t.done; set_up = t.set_up })
does_follow made old new host memory memory' outcome (Serve slot) i d =
    serves_follow made old new host slot outcome d.0.meaning i.0 i.1 d.0.serves
does_follow made old new host memory memory' outcome (AddressNext slot) i d =
    let t = some_task (held_at host.held slot) _ d.0 in
    along host.regs outcome _ t.1.outcome
    (command_follows host (Address t.0.task.desc.start) slot t.1.answer (addressed slot t.0.task.desc)
    (λ w. addressed_follows host slot t.0.task.desc (index_of (Address t.0.task.desc.start)) w i.below i.is_at))
does_follow made old new host memory memory' outcome (Execute slot) i d =
    let t = some_task (held_at host.held slot) _ d.0 in
    along host.regs outcome _ t.1.outcome
    (command_follows host (execute_of slot t.0.task.desc) slot t.1.answer (executed slot t.0.task.desc)
    (λ w. executed_if host slot t.0.task.desc (index_of (execute_of slot t.0.task.desc)) w (has_error w) i.below i.is_at))
does_follow made old new host memory memory' outcome Poll i d =
    along host.regs outcome _ d.0.outcome (polled_follows host (word_in d.0.answer None))
does_follow made old new host memory memory' outcome (NextBlock slot k) i d =
    let t = some_task (held_at host.held slot) _ d in
    moves_follow made old new host memory memory' slot k outcome t.0.task t.0.task.desc.read t.1
does_follow made old new host memory memory' outcome (Close slot) i d =
    let t = some_task (held_at host.held slot) _ d.0 in
    along host.regs outcome _ t.1.outcome (phase_follows host slot t.0.task.desc (judged host.regs slot (word_in t.1.answer (Some slot))))

pub acts_follow : {L : Type 0} (made : L → Call → L → Type 0) (old new : L) (host : Host) (memory memory' : Memory) (outcome : Outcome)
    → Acts made old new host memory memory' outcome → Follows host.regs outcome
acts_follow made old new host memory memory' outcome a = does_follow made old new host memory memory' outcome a.due a.slot a.does
