-- What each call of the link leads to, by its answer (host interface annex of JESD84-B51; cqhci_irq and
-- cqhci_finish_mrq of the Linux driver see the same from the other side).
use Rattle.std.specs.Prelude.{ℕ, ◌==◌, ◌&&◌, not, slice_set, Some, None, Result, Ok, Err, if◌then◌else◌}
use Rattle.std.specs.Option.{option_map}
use Rattle.bus_link.specs.declared.link.Cause.{Cause}
use Rattle.bus_link.specs.declared.link.Cause.TheVariants.{Response}
use Rattle.bus_link.specs.declared.link.LinkEnd.{LinkEnd}
use Rattle.bus_link.specs.Link.{is_poll}
use Rattle.cmd_words.specs.declared.command.Command.{Command}
use Rattle.cmd_words.specs.declared.command.Command.TheVariants.{Address}
use Rattle.cmd_words.specs.Command.{index_of}
use Rattle.cq_desc.specs.declared.direct.DirectDesc.{DirectDesc}
use Rattle.cq_desc.specs.declared.task.TaskDesc.{TaskDesc}
use Rattle.cq_regs.specs.State.{Registers}
use Rattle.cq_regs.specs.Slots.{made_ready, without}
use Rattle.cq_regs.specs.Effects.{completed, moved_on}
use Rattle.cq_task.specs.declared.slot.DataTask.{DataTask}
use Rattle.cq_task.specs.declared.slot.DropCause.{DropCause}
use Rattle.cq_schedule.specs.Held.{held_at, newly_held, with_block}
use Rattle.cq_engine.specs.declared.did.Did.TheVariants.{Sent, Direct, Moved, Finished, Dropped, Stopped}
use Rattle.cq_engine.specs.Words.{command_error, data_error, direct_of, execute_of, has_error, is_masked, params_of, poll_of}
use Rattle.cq_engine.specs.Outcome.{Host, Outcome, heard, judged, responded, stop, with_regs, word_in}

-- the engine stopped for the answer of a command, or goes on with its word
abbrev pub led_on : Host → Result ℕ Cause → Registers → (Host → ℕ → Outcome) → Outcome
led_on host (Ok word) regs next = next (with_regs host regs) word
led_on host (Err cause) regs next = record { did = Stopped cause; host = with_regs host regs }

-- a command of a slot
abbrev pub after_command : Host → Command → ℕ → Result ℕ LinkEnd → (Host → ℕ → Outcome) → Outcome
after_command host command slot answer next =
    let word = word_in answer (Some slot) in
    led_on host (judged host.regs slot word) (heard host.regs (index_of command) slot word) next

-- the task of a slot complete, and no longer held
abbrev pub finished : Host → ℕ → TaskDesc → Host
finished host slot desc = record host {
  held = slice_set host.held slot None;
  regs = completed host.regs slot desc.int;
}

-- CMD44: the task is held, and its slot is named
abbrev pub named : ℕ → DataTask → Host → ℕ → Outcome
named slot task host word = record {
  did = Sent (params_of slot task.desc);
  host = record host { held = slice_set host.held slot (Some (newly_held task)); regs = moved_on host.regs slot };
}

abbrev pub after_params : Host → ℕ → DataTask → Result ℕ LinkEnd → Outcome
after_params host slot task answer = after_command host (params_of slot task.desc) slot answer (named slot task)

-- CMD45: the slot is sent
abbrev pub addressed : ℕ → TaskDesc → Host → ℕ → Outcome
addressed slot desc host word = record { did = Sent (Address desc.start); host = with_regs host (moved_on host.regs slot) }

abbrev pub after_address : Host → ℕ → TaskDesc → Result ℕ LinkEnd → Outcome
after_address host slot desc answer = after_command host (Address desc.start) slot answer (addressed slot desc)

-- CMD46 and CMD47: the slot is active; with an error bit in its word the task is complete, and no block moves
abbrev pub executed : ℕ → TaskDesc → Host → ℕ → Outcome
executed slot desc host word =
    let active = with_regs host (moved_on host.regs slot) in
    if has_error word then record { did = Finished slot; host = finished active slot desc }
    else record { did = Sent (execute_of slot desc); host = active }

abbrev pub after_execute : Host → ℕ → TaskDesc → Result ℕ LinkEnd → Outcome
after_execute host slot desc answer = after_command host (execute_of slot desc) slot answer (executed slot desc)

-- a poll: whatever word it is answered with is the queue status word, and no error
abbrev pub polled : Host → Command → Result ℕ Cause → Outcome
polled host poll (Err cause) = stop host (command_error (index_of poll) 0) cause
polled host poll (Ok word) =
    let regs = responded host.regs (index_of poll) word in
    record { did = Sent poll; host = with_regs host (record regs { queue_status = word; ring = made_ready regs.ring word }) }

abbrev pub after_poll : Host → Result ℕ LinkEnd → Outcome
after_poll host answer = polled host (poll_of host.regs) (word_in answer None)

-- the task of a direct command complete
abbrev pub direct_done : ℕ → DirectDesc → Host → Outcome
direct_done slot desc host = record { did = Direct slot; host = with_regs host (completed host.regs slot desc.int) }

-- the response of a direct command: the word that a CMD13 is answered with that asks for the queue status is no error
abbrev pub direct_heard : ℕ → DirectDesc → Host → ℕ → Outcome
direct_heard slot desc host word =
    let regs = responded host.regs (index_of (direct_of desc)) word in
    let taken = with_regs host (record regs { direct_response = word }) in
    if is_masked host.regs word && not (is_poll (direct_of desc))
    then stop taken (command_error (index_of (direct_of desc)) slot) (Response word slot)
    else direct_done slot desc taken

-- a direct command of response type 0 completes whatever it is answered with
abbrev pub direct_ended : Host → ℕ → DirectDesc → Result ℕ Cause → Outcome
direct_ended host slot desc (Err cause) = stop host (command_error (index_of (direct_of desc)) slot) cause
direct_ended host slot desc (Ok word) =
    if desc.resp == 0 then direct_done slot desc host else direct_heard slot desc host word

abbrev pub after_direct : Host → ℕ → DirectDesc → Result ℕ LinkEnd → Outcome
after_direct host slot desc answer = direct_ended host slot desc (word_in answer (Some slot))

-- a dropped slot is idle
abbrev pub dropped : Host → ℕ → DropCause → Outcome
dropped host slot why = record {
  did = Dropped slot why;
  host = with_regs host (record host.regs { ring = without host.regs.ring slot });
}

-- the end of a data phase: the engine stopped, or the task complete, also where not all blocks moved
abbrev pub phase_ended : Host → ℕ → TaskDesc → Result ℕ Cause → Outcome
phase_ended host slot desc (Ok word) = record { did = Finished slot; host = finished host slot desc }
phase_ended host slot desc (Err cause) = stop host (data_error (index_of (execute_of slot desc)) slot) cause

abbrev pub after_close : Host → ℕ → TaskDesc → Result ℕ LinkEnd → Outcome
after_close host slot desc answer = phase_ended host slot desc (judged host.regs slot (word_in answer (Some slot)))

-- a block counted
abbrev pub counted : Host → ℕ → Host
counted host slot = record host { held = slice_set host.held slot (option_map with_block (held_at host.held slot)) }

-- a block that moved, or what broke the data phase off
abbrev pub after_block : Host → ℕ → TaskDesc → Result (Unit {0}) LinkEnd → Outcome
after_block host slot desc (Ok _) = record { did = Moved slot; host = counted host slot }
after_block host slot desc (Err end) = after_close host slot desc (Err end)
