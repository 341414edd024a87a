-- The command that begins a data phase leaves the tasks that are held.
use Rattle.std.proofs.Common.{◌≡◌, ◌==◌, ◌<◌, ◌+◌, ℕ, refl, sym, ◌∙◌, ap, subst, arith, zero-add, Bool, true, false}
use Rattle.std.specs.Prelude.{cond, not, ◌&&◌, IfSome, Option, Some, None, Result, Ok, Err}
use Rattle.std.specs.Option.{IsSomeAnd, option_map_or}
use Rattle.std.proofs.lemmas.Bool.{false≢true}
use Rattle.std.proofs.lemmas.List.FromFn.{get_or-map-range_with_len}
use Rattle.bus_link.specs.Link.{is_poll}
use Rattle.bus_link.specs.declared.link.Cause.{Cause}
use Rattle.bus_link.specs.declared.link.Cause.TheVariants.{Response}
use Rattle.bus_link.specs.declared.link.LinkEnd.{LinkEnd}
use Rattle.card_link.specs.Behind.{Behind}
use Rattle.card_link.specs.Made.{CardMade}
use Rattle.cmd_words.specs.Command.{index_of}
use Rattle.cmd_words.specs.declared.command.Command.TheVariants.{Address as StartSector, Execute as ExecuteCommand}
use Rattle.cq_desc.specs.declared.direct.DirectDesc.{DirectDesc}
use Rattle.cq_desc.specs.declared.task.TaskDesc.{TaskDesc}
use Rattle.cq_engine.specs.After.{addressed, after_address, after_direct, after_execute, after_params, after_poll, direct_done, direct_ended, direct_heard, dropped, executed, finished, led_on, named, polled}
use Rattle.cq_engine.specs.Event.{Does, Exchanges, Serves}
use Rattle.cq_engine.specs.Holds.{AreCounted, IsCounted}
use Rattle.cq_engine.specs.Outcome.{Host, Outcome, heard, judged, responded, stop, with_regs, word_in}
use Rattle.cq_engine.specs.Words.{command_error, direct_of, execute_of, has_error, is_masked, params_of, poll_of}
use Rattle.cq_engine.specs.declared.did.Did.TheVariants.{Finished, Sent as SentCommand, Stopped}
use Rattle.cq_regs.specs.Effects.{moved_on}
use Rattle.cq_regs.specs.Slots.{progress_of}
use Rattle.cq_regs.specs.State.{Registers}
use Rattle.cq_regs.specs.declared.slots.Progress.{Progress}
use Rattle.cq_regs.specs.declared.slots.Progress.TheVariants.{Ready}
use Rattle.cq_schedule.specs.Held.{Places, held_at, kept, left_at, noted, remembered, same, slots}
use Rattle.cq_schedule.specs.Order.{moved_of}
use Rattle.cq_schedule.specs.declared.held.HeldTask.{HeldTask}
use Rattle.cq_schedule.specs.declared.rules.Due.{Due}
use Rattle.cq_schedule.specs.declared.rules.Due.TheVariants.{Rest, Block as NextBlock, Close, Address, Serve, Execute, Poll, Tick}
use Rattle.cq_schedule.proofs.Progresses.{same-true}
use Rattle.cq_task.specs.declared.slot.DataTask.{DataTask}
use Rattle.cq_task.specs.declared.slot.DropCause.{DropCause}
use Rattle.cq_task.specs.declared.slot.SlotTask.{SlotTask}
use Rattle.cq_task.specs.declared.slot.SlotTask.TheVariants.{Direct as DirectTask, Data}
use Rattle.host_mem.specs.Memory.{Memory}
use Rattle.state_laws.proofs.Tasks.{remembered_at, the_one}
use Rattle.world_steps.proofs.Dues.{is_command}

abbrev pub Keeps : Host → Outcome → Type 0
Keeps host outcome = (read : Bool) (slot : ℕ) → outcome.did ≡ SentCommand (ExecuteCommand read slot) → outcome.host.held ≡ host.held

either_keeps : (host : Host) (b : Bool) (x y : Outcome) → Keeps host x → Keeps host y → Keeps host (cond b x y)
either_keeps host true x y left right = left
either_keeps host false x y left right = right

led_keeps : (host : Host) (word : Result ℕ Cause) (regs : Registers) (next : Host → ℕ → Outcome) → ((w : ℕ) → Keeps host (next (with_regs host regs) w))
    → Keeps host (led_on host word regs next)
led_keeps host (Ok word) regs next k = k word
led_keeps host (Err cause) regs next k = λ read slot e. absurd (cc e)

params_keeps : (host : Host) (slot : ℕ) (task : DataTask) (answer : Result ℕ LinkEnd) → Keeps host (after_params host slot task answer)
params_keeps host slot task answer =
    led_keeps host (judged host.regs slot (word_in answer (Some slot))) (heard host.regs (index_of (params_of slot task.desc)) slot (word_in answer (Some slot)))
    (named slot task) (λ w read tag e. absurd (cc e))

address_keeps : (host : Host) (slot : ℕ) (desc : TaskDesc) (answer : Result ℕ LinkEnd) → Keeps host (after_address host slot desc answer)
address_keeps host slot desc answer =
    led_keeps host (judged host.regs slot (word_in answer (Some slot))) (heard host.regs (index_of (StartSector desc.start)) slot (word_in answer (Some slot)))
    (addressed slot desc) (λ w read tag e. absurd (cc e))

executed_keeps : (host : Host) (regs : Registers) (slot : ℕ) (desc : TaskDesc) (word : ℕ) → Keeps host (executed slot desc (with_regs host regs) word)
executed_keeps host regs slot desc word =
    either_keeps host (has_error word)
    (record { did = Finished slot; host = finished (with_regs host (moved_on regs slot)) slot desc })
    (record { did = SentCommand (execute_of slot desc); host = with_regs host (moved_on regs slot) })
    (λ read tag e. absurd (cc e)) (λ read tag e. refl)

execute_keeps : (host : Host) (slot : ℕ) (desc : TaskDesc) (answer : Result ℕ LinkEnd) → Keeps host (after_execute host slot desc answer)
execute_keeps host slot desc answer =
    let regs = heard host.regs (index_of (execute_of slot desc)) slot (word_in answer (Some slot)) in
    led_keeps host (judged host.regs slot (word_in answer (Some slot))) regs (executed slot desc) (λ w. executed_keeps host regs slot desc w)

poll_keeps : (host : Host) (word : Result ℕ Cause) → Keeps host (polled host (poll_of host.regs) word)
poll_keeps host (Ok word) = λ read slot e. absurd (cc e)
poll_keeps host (Err cause) = λ read slot e. absurd (cc e)

heard_keeps : (host : Host) (slot : ℕ) (desc : DirectDesc) (word : ℕ) → Keeps host (direct_heard slot desc host word)
heard_keeps host slot desc word =
    let taken = with_regs host (record (responded host.regs (index_of (direct_of desc)) word) { direct_response = word }) in
    either_keeps host (is_masked host.regs word && not (is_poll (direct_of desc)))
    (stop taken (command_error (index_of (direct_of desc)) slot) (Response word slot)) (direct_done slot desc taken)
    (λ read tag e. absurd (cc e)) (λ read tag e. absurd (cc e))

direct_keeps : (host : Host) (slot : ℕ) (desc : DirectDesc) (word : Result ℕ Cause) → Keeps host (direct_ended host slot desc word)
direct_keeps host slot desc (Err cause) = λ read tag e. absurd (cc e)
direct_keeps host slot desc (Ok word) =
    either_keeps host (desc.resp == 0) (direct_done slot desc host) (direct_heard slot desc host word)
    (λ read tag e. absurd (cc e)) (heard_keeps host slot desc word)

served_keeps : (old new : Behind) (host : Host) (slot : ℕ) (outcome : Outcome) (meaning : Result SlotTask DropCause)
    → Serves CardMade old new host slot outcome meaning → Keeps host outcome
served_keeps old new host slot outcome (Ok (DirectTask desc)) d = subst (Keeps host) (sym d.outcome) (direct_keeps host slot desc (word_in d.answer (Some slot)))
served_keeps old new host slot outcome (Ok (Data task)) d = subst (Keeps host) (sym d.outcome) (params_keeps host slot task d.answer)
served_keeps old new host slot outcome (Err why) d =
    let none : Keeps host (dropped host slot why) = λ read tag e. absurd (cc e) in
    subst (Keeps host) (sym d.outcome) none

pub does_keep : (old new : Behind) (host : Host) (memory memory' : Memory) (outcome : Outcome) (due : Due) → is_command due ≡ true
    → Does CardMade old new host memory memory' outcome due → Keeps host outcome
does_keep old new host memory memory' outcome (Serve slot) e d = served_keeps old new host slot outcome d.0.meaning d.0.serves
does_keep old new host memory memory' outcome (Address slot) e d =
    let x = the_one (held_at host.held slot) _ d.0 in
    subst (Keeps host) (sym x.2.outcome) (address_keeps host slot x.0.task.desc x.2.answer)
does_keep old new host memory memory' outcome (Execute slot) e d =
    let x = the_one (held_at host.held slot) _ d.0 in
    subst (Keeps host) (sym x.2.outcome) (execute_keeps host slot x.0.task.desc x.2.answer)
does_keep old new host memory memory' outcome Poll e d = subst (Keeps host) (sym d.0.outcome) (poll_keeps host (word_in d.0.answer None))
does_keep old new host memory memory' outcome Rest e d = absurd (false≢true e)
does_keep old new host memory memory' outcome Tick e d = absurd (false≢true e)
does_keep old new host memory memory' outcome (NextBlock slot k) e d = absurd (false≢true e)
does_keep old new host memory memory' outcome (Close slot) e d = absurd (false≢true e)

-- what the engine notes of a slot has as many blocks moved
left_moved : (progress : Progress) (place : Option HeldTask) → option_map_or (λ h. h.moved) (left_at progress place) 0 ≡ option_map_or (λ h. h.moved) place 0
left_moved progress None = refl
left_moved progress (Some held) = refl

pub noted_moved : (held : Places) (regs : Registers) (slot : ℕ) → slot < 32 → moved_of (noted held regs) slot ≡ moved_of held slot
unfolding slots
noted_moved held regs slot below =
    ap (λ o. option_map_or (λ h. h.moved) o 0)
    (get_or-map-range_with_len (λ slot. left_at (progress_of regs.ring slot) (held_at held slot)) 0 32 slot slot None below (zero-add slot))
    ∙ left_moved (progress_of regs.ring slot) (held_at held slot)

-- and none of one that is ready
kept_ready : (place : Option HeldTask) → IfSome place IsCounted → option_map_or (λ h. h.moved) (kept Ready place) 0 ≡ 0
kept_ready None counted = refl
kept_ready (Some held) counted = by (same held.progress Ready) refl
  where
    by : (b : Bool) → same held.progress Ready ≡ b → option_map_or (λ h. h.moved) (cond b (Some held) None) 0 ≡ 0
    by true e = counted.phase (λ active. absurd (let is = same-true held.progress Ready e in cc (is, active)))
    by false e = refl

pub ready_moved : (held : Places) (regs : Registers) (slot : ℕ) → AreCounted held → slot < 32 → progress_of regs.ring slot ≡ Ready
    → moved_of (remembered held regs) slot ≡ 0
ready_moved held regs slot counted below is =
    ap (λ o. option_map_or (λ h. h.moved) o 0) (remembered_at held regs slot below)
    ∙ ap (λ progress. option_map_or (λ h. h.moved) (kept progress (held_at held slot)) 0) is
    ∙ kept_ready (held_at held slot) (counted slot below)
