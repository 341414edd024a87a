-- What the answer of a command leads to doesn't hang on the tasks that are held.
use Rattle.std.proofs.Common.{◌≡◌, ◌==◌, ◌&&◌, ℕ, Bool, true, false, cond, not, refl, ◌∙◌, ap}
use Rattle.std.specs.Prelude.{Result, Ok, Err, Some, None, slice_set}
use Rattle.bus_link.specs.Link.{is_poll}
use Rattle.bus_link.specs.declared.link.Cause.{Cause}
use Rattle.bus_link.specs.declared.link.Cause.TheVariants.{Dark as NoPower, Response}
use Rattle.bus_link.specs.declared.link.LinkEnd.{LinkEnd}
use Rattle.card_core.specs.declared.ends.Dark.{Dark}
use Rattle.cmd_words.specs.Command.{index_of}
use Rattle.cmd_words.specs.declared.command.Command.{Command}
use Rattle.cq_desc.specs.declared.direct.DirectDesc.{DirectDesc}
use Rattle.cq_desc.specs.declared.task.TaskDesc.{TaskDesc}
use Rattle.cq_engine.specs.After.{after_close, after_command, after_direct, after_poll, direct_heard, led_on, phase_ended}
use Rattle.cq_engine.specs.Outcome.{Host, Outcome, heard, host_of, judged, outcome_of, responded, stop, stopped_with, word_in}
use Rattle.cq_engine.specs.Words.{command_error, data_error, direct_of, execute_of, is_masked, poll_of}
use Rattle.cq_engine.specs.declared.did.Did.TheVariants.{Direct, Finished, Sent as SentCommand, Stopped}
use Rattle.cq_engine.proofs.SlotLaws.{completes}
use Rattle.cq_regs.specs.Effects.{completed}
use Rattle.cq_regs.specs.Slots.{made_ready, without}
use Rattle.cq_regs.specs.State.{Registers}
use Rattle.cq_schedule.specs.Held.{Places}
use Rattle.raw_machine.specs.Answering.{seen}

-- A command of a slot: the engine stops, and the slots are as they were; or it goes on with the word of the answer.
pub data Led (regs : Registers) (command : Command) (slot : ℕ) (answer : Result ℕ Dark) (next : Host → ℕ → Outcome) : Type 0 where
  stops : (cause : Cause) (left : Registers) → left.stopped ≡ true → left.ring ≡ regs.ring
      → ((held : Places) → after_command (host_of held regs) command slot (seen answer) next ≡ outcome_of (Stopped cause) held left)
      → Led regs command slot answer next
  goes : (word : ℕ) → answer ≡ Ok word
      → ((held : Places) → after_command (host_of held regs) command slot (seen answer) next ≡ next (host_of held (responded regs (index_of command) word)) word)
      → Led regs command slot answer next

word_masked : (held : Places) (regs : Registers) (index slot word : ℕ) (next : Host → ℕ → Outcome) (masked : Bool) → is_masked regs word ≡ masked
    → led_on (host_of held regs) (judged regs slot (Ok word)) (heard regs index slot (Ok word)) next
    ≡ led_on (host_of held regs) (cond masked (Err (Response word slot)) (Ok word))
    (cond masked (stopped_with (responded regs index word) (command_error index slot)) (responded regs index word)) next
word_masked held regs index slot word next masked e =
    ap (λ b. led_on (host_of held regs) (cond b (Err (Response word slot)) (Ok word))
    (cond b (stopped_with (responded regs index word) (command_error index slot)) (responded regs index word)) next) e

led_if : (regs : Registers) (command : Command) (slot word : ℕ) (next : Host → ℕ → Outcome) (masked : Bool) → is_masked regs word ≡ masked
    → Led regs command slot (Ok word) next
led_if regs command slot word next true e =
    stops (Response word slot) (stopped_with (responded regs (index_of command) word) (command_error (index_of command) slot)) refl refl
    (λ held. word_masked held regs (index_of command) slot word next true e)
led_if regs command slot word next false e = goes word refl (λ held. word_masked held regs (index_of command) slot word next false e)

pub led : (regs : Registers) (command : Command) (slot : ℕ) (answer : Result ℕ Dark) (next : Host → ℕ → Outcome) → Led regs command slot answer next
led regs command slot (Ok word) next = led_if regs command slot word next (is_masked regs word) refl
led regs command slot (Err dark) next =
    stops NoPower (stopped_with regs (command_error (index_of command) slot)) refl refl (λ held. refl)

-- A direct command: the engine stops, or its task is complete.
pub data LedDirect (regs : Registers) (slot : ℕ) (desc : DirectDesc) (answer : Result ℕ Dark) : Type 0 where
  stops : (cause : Cause) (left : Registers) → left.stopped ≡ true → left.ring ≡ regs.ring
      → ((held : Places) → after_direct (host_of held regs) slot desc (seen answer) ≡ outcome_of (Stopped cause) held left) → LedDirect regs slot desc answer
  done : (left : Registers) → left.stopped ≡ regs.stopped → left.ring ≡ without regs.ring slot
      → ((held : Places) → after_direct (host_of held regs) slot desc (seen answer) ≡ outcome_of (Direct slot) held left) → LedDirect regs slot desc answer

abbrev heard_direct : ℕ → DirectDesc → Registers → ℕ → Registers
heard_direct slot desc regs word = record (responded regs (index_of (direct_of desc)) word) { direct_response = word }

heard_if : (regs : Registers) (slot : ℕ) (desc : DirectDesc) (word : ℕ) (masked : Bool) → (is_masked regs word && not (is_poll (direct_of desc))) ≡ masked
    → (desc.resp == 0) ≡ false → LedDirect regs slot desc (Ok word)
heard_if regs slot desc word true e r =
    stops (Response word slot) (stopped_with (heard_direct slot desc regs word) (command_error (index_of (direct_of desc)) slot)) refl refl
    (λ held. ap (λ b. cond b (outcome_of (Direct slot) held (completed regs slot desc.int)) (direct_heard slot desc (host_of held regs) word)) r
    ∙ ap (λ b. cond b (stop (host_of held (heard_direct slot desc regs word)) (command_error (index_of (direct_of desc)) slot) (Response word slot))
    (outcome_of (Direct slot) held (completed (heard_direct slot desc regs word) slot desc.int))) e)
heard_if regs slot desc word false e r =
    done (completed (heard_direct slot desc regs word) slot desc.int) (completes (heard_direct slot desc regs word) slot desc.int).1
    (completes (heard_direct slot desc regs word) slot desc.int).0
    (λ held. ap (λ b. cond b (outcome_of (Direct slot) held (completed regs slot desc.int)) (direct_heard slot desc (host_of held regs) word)) r
    ∙ ap (λ b. cond b (stop (host_of held (heard_direct slot desc regs word)) (command_error (index_of (direct_of desc)) slot) (Response word slot))
    (outcome_of (Direct slot) held (completed (heard_direct slot desc regs word) slot desc.int))) e)

direct_if : (regs : Registers) (slot : ℕ) (desc : DirectDesc) (word : ℕ) (silent : Bool) → (desc.resp == 0) ≡ silent → LedDirect regs slot desc (Ok word)
direct_if regs slot desc word true e =
    done (completed regs slot desc.int) (completes regs slot desc.int).1 (completes regs slot desc.int).0
    (λ held. ap (λ b. cond b (outcome_of (Direct slot) held (completed regs slot desc.int)) (direct_heard slot desc (host_of held regs) word)) e)
direct_if regs slot desc word false e = heard_if regs slot desc word (is_masked regs word && not (is_poll (direct_of desc))) refl e

pub led_direct : (regs : Registers) (slot : ℕ) (desc : DirectDesc) (answer : Result ℕ Dark) → LedDirect regs slot desc answer
led_direct regs slot desc (Ok word) = direct_if regs slot desc word (desc.resp == 0) refl
led_direct regs slot desc (Err dark) =
    stops NoPower (stopped_with regs (command_error (index_of (direct_of desc)) slot)) refl refl (λ held. refl)

-- A poll: the engine stops, or the sent slots of the word are ready.
pub data LedPoll (regs : Registers) (answer : Result ℕ Dark) : Type 0 where
  stops : (cause : Cause) (left : Registers) → left.stopped ≡ true → left.ring ≡ regs.ring
      → ((held : Places) → after_poll (host_of held regs) (seen answer) ≡ outcome_of (Stopped cause) held left) → LedPoll regs answer
  polls : (word : ℕ) (left : Registers) → left.stopped ≡ regs.stopped → left.ring ≡ made_ready regs.ring word
      → ((held : Places) → after_poll (host_of held regs) (seen answer) ≡ outcome_of (SentCommand (poll_of regs)) held left) → LedPoll regs answer

pub led_poll : (regs : Registers) (answer : Result ℕ Dark) → LedPoll regs answer
led_poll regs (Ok word) =
    polls word (record (responded regs (index_of (poll_of regs)) word) { queue_status = word; ring = made_ready regs.ring word }) refl refl (λ held. refl)
led_poll regs (Err dark) = stops NoPower (stopped_with regs (command_error (index_of (poll_of regs)) 0)) refl refl (λ held. refl)

-- The end of a data phase: the engine stops, or the task is complete.
pub data LedEnd (regs : Registers) (slot : ℕ) (desc : TaskDesc) (answer : Result ℕ LinkEnd) : Type 0 where
  stops : (cause : Cause) (left : Registers) → left.stopped ≡ true → left.ring ≡ regs.ring
      → ((held : Places) → after_close (host_of held regs) slot desc answer ≡ outcome_of (Stopped cause) held left) → LedEnd regs slot desc answer
  ends : (left : Registers) → left.stopped ≡ regs.stopped → left.ring ≡ without regs.ring slot
      → ((held : Places) → after_close (host_of held regs) slot desc answer ≡ outcome_of (Finished slot) (slice_set held slot None) left) → LedEnd regs slot desc answer

end_if : (regs : Registers) (slot : ℕ) (desc : TaskDesc) (answer : Result ℕ LinkEnd) (word : Result ℕ Cause) → judged regs slot (word_in answer (Some slot)) ≡ word
    → LedEnd regs slot desc answer
end_if regs slot desc answer (Ok word) e =
    ends (completed regs slot desc.int) (completes regs slot desc.int).1 (completes regs slot desc.int).0
    (λ held. ap (phase_ended (host_of held regs) slot desc) e)
end_if regs slot desc answer (Err cause) e =
    stops cause (stopped_with regs (data_error (index_of (execute_of slot desc)) slot)) refl refl (λ held. ap (phase_ended (host_of held regs) slot desc) e)

pub led_end : (regs : Registers) (slot : ℕ) (desc : TaskDesc) (answer : Result ℕ LinkEnd) → LedEnd regs slot desc answer
led_end regs slot desc answer = end_if regs slot desc answer (judged regs slot (word_in answer (Some slot))) refl
