-- The engine over the card, task by task (host interface annex of JESD84-B51): a slot that is served has its task given to the card by CMD44 and
-- CMD45, a ready task moves all its blocks at once, and a poll makes tasks ready.
use Rattle.std.specs.Prelude.{◌≡◌, ◌≢◌, ℕ, false, true, List, [], ◌++◌, Some, Result, Ok, Err}
use Rattle.std.specs.Option.{IsSomeAnd}
use Rattle.bus_link.specs.declared.link.LinkEnd.{LinkEnd}
use Rattle.card_core.specs.Response.{task_to_execute}
use Rattle.card_core.specs.Serving.{End}
use Rattle.card_core.specs.declared.ends.Dark.{Dark}
use Rattle.cmd_words.specs.declared.command.Command.{Command}
use Rattle.cmd_words.specs.declared.command.Command.TheVariants.{Address as StartSector}
use Rattle.cq_engine.specs.After.{after_address, after_close, after_direct, after_execute, after_params, after_poll}
use Rattle.cq_engine.specs.Outcome.{Host, Outcome, host_of}
use Rattle.cq_engine.specs.Words.{direct_of, execute_of, params_of, poll_of}
use Rattle.cq_engine.specs.declared.did.Did.{Did}
use Rattle.cq_engine.specs.declared.did.Did.TheVariants.{Dropped, Idle, Sent as SentCommand}
use Rattle.cq_regs.specs.Effects.{ticked_in}
use Rattle.cq_regs.specs.Slots.{without}
use Rattle.cq_regs.specs.State.{Registers}
use Rattle.cq_schedule.specs.Held.{none_held}
use Rattle.cq_schedule.specs.Meaning.{IsDue, list_of}
use Rattle.cq_schedule.specs.declared.rules.Due.{Due}
use Rattle.cq_schedule.specs.declared.rules.Due.TheVariants.{Execute, Poll, Rest, Serve, Tick}
use Rattle.cq_task.specs.Meaning.{Means}
use Rattle.cq_task.specs.declared.slot.DataTask.{DataTask}
use Rattle.cq_task.specs.declared.slot.DropCause.{DropCause}
use Rattle.cq_task.specs.declared.slot.SlotTask.{SlotTask}
use Rattle.cq_task.specs.declared.slot.SlotTask.TheVariants.{Data, Direct}
use Rattle.raw_lines.specs.declared.raw_line.RawLine.{RawLine}
use Rattle.task_queue.specs.declared.queue.Queued.{Queued}
use Rattle.raw_machine.specs.Answering.{Answers, card_of, seen}
use Rattle.raw_machine.specs.Moving.{HasMoved, contents_after, keeps, memory_after, phase_answer}
use Rattle.raw_machine.specs.Running.{goes_on, lines_of}
use Rattle.raw_machine.specs.State.{PlainCard, RawState, places_of, turned, with_registers, with_task}

-- the registers, to what the engine's tables say of them and of what is done
abbrev pub host : Registers → Host
host regs = host_of none_held regs

-- A command is sent to the card, and its answer leads on: by the engine's table, what was done and the registers.
pub record Sends (command : Command) (after : Host → Result ℕ LinkEnd → Outcome) (old : RawState) (did : Did) (new : RawState) : Type 0 where
  pub answer : Result ℕ Dark
  pub card : PlainCard
  pub answers : Answers command old.card answer card
  pub is : did ≡ (after (host old.regs) (seen answer)).did
  pub state : new ≡ record old { regs = (after (host old.regs) (seen answer)).host.regs; card = card }

-- CMD44 and then CMD45 give a task to the card. Where the engine stops for the first answer, the second command isn't sent.
pub data Gives (slot : ℕ) (task : DataTask) (old : RawState) : Did → RawState → Type 0 where
  stops : {did : Did} {new : RawState} → Sends (params_of slot task.desc) (λ h. after_params h slot task) old did new → goes_on did new.regs ≡ false
      → Gives slot task old did new
  gives : {first did : Did} {between new : RawState} → Sends (params_of slot task.desc) (λ h. after_params h slot task) old first between
      → goes_on first between.regs ≡ true → Sends (StartSector task.desc.start) (λ h. after_address h slot task.desc) (with_task between slot task) did new
      → Gives slot task old did new

-- The blocks of a task move, up to the end of its data phase: the task is complete, or the engine stops.
pub record MovesBlocks (slot : ℕ) (task : DataTask) (queued : Queued) (old : RawState) (did : Did) (new : RawState) : Type 0 where
  pub moved : ℕ
  pub end : End
  pub extent : HasMoved task queued (keeps old.card queued moved) moved end
  pub is : did ≡ (after_close (host old.regs) slot task.desc (seen (phase_answer task.desc.read end))).did
  pub state : new ≡ record old {
    memory = memory_after old.memory task.pieces old.card.contents queued moved;
    regs = (after_close (host old.regs) slot task.desc (seen (phase_answer task.desc.read end))).host.regs;
    card = turned (contents_after old.card old.memory task.pieces queued moved end) old.card;
  }

-- CMD46 or CMD47, and then all blocks of the task that the card took out of its queue. Where the engine stops for the answer, and where the answer
-- has an error bit, no block moves.
pub data Moves (slot : ℕ) (task : DataTask) (old : RawState) : Did → RawState → Type 0 where
  refused : {did : Did} {new : RawState} → Sends (execute_of slot task.desc) (λ h. after_execute h slot task.desc) old did new
      → ((command : Command) → did ≢ SentCommand command) → Moves slot task old did new
  moves : {command : Command} {did : Did} {between new : RawState} {queued : Queued}
      → Sends (execute_of slot task.desc) (λ h. after_execute h slot task.desc) old (SentCommand command) between
      → task_to_execute (card_of old.card) task.desc.read slot ≡ Some queued → MovesBlocks slot task queued between did new → Moves slot task old did new

-- a slot is served by what it means
abbrev pub ServesAs : Result SlotTask DropCause → (slot : ℕ) → RawState → Did → RawState → Type 0
ServesAs (Ok (Direct desc)) slot old did new = Sends (direct_of desc) (λ h. after_direct h slot desc) old did new
ServesAs (Ok (Data task)) slot old did new = Gives slot task old did new
ServesAs (Err why) slot old did new = (did ≡ Dropped slot why) × (new ≡ with_registers old (record old.regs { ring = without old.regs.ring slot }))

pub record Serves (slot : ℕ) (old : RawState) (did : Did) (new : RawState) : Type 0 where
  pub meaning : Result SlotTask DropCause
  pub means : Means old.memory (list_of old.regs) slot meaning
  pub serves : ServesAs meaning slot old did new

-- What comes next is done. Between tasks no data phase is under way, and no task waits for its start sector.
abbrev pub Acts : Due → RawState → Did → RawState → Type 0
Acts (Serve slot) old did new = Serves slot old did new
Acts (Execute slot) old did new = IsSomeAnd (old.tasks slot) (λ task. Moves slot task old did new)
Acts Poll old did new = Sends (poll_of old.regs) after_poll old did new
Acts Tick old did new = (did ≡ Idle) × (new ≡ with_registers old (ticked_in old.regs))
Acts Rest old did new = (did ≡ Idle) × (new ≡ old)
Acts _ old did new = ⊥

pub record Works (old : RawState) (did : Did) (new : RawState) : Type 0 where
  pub due : Due
  pub is_due : IsDue (places_of old.tasks) old.regs old.memory due
  pub acts : Acts due old did new

-- tasks one after the other, after each of which the engine goes on, with the lines of the slots that ended
pub data WorksOn : RawState → List RawLine → RawState → Type 0 where
  rests : {state : RawState} → WorksOn state [] state
  goes : {old between new : RawState} {did : Did} {lines : List RawLine} → Works old did between → goes_on did between.regs ≡ true → WorksOn between lines new
      → WorksOn old (lines_of did ++ lines) new
