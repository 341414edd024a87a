-- What an event of the engine leaves, told by what a script can tell: between tasks, or while one is under way.
use Rattle.std.proofs.Common.{◌≡◌, ◌≢◌, ◌<◌, ◌≤◌, ℕ, true, false, Some, refl, sym, ◌∙◌, ap, subst}
use Rattle.std.specs.Prelude.{Result, Ok, if◌then◌else◌, is_some, min, slice_get}
use Rattle.std.specs.List.{All}
use Rattle.bus_link.specs.Link.{is_poll}
use Rattle.bus_link.specs.Link.Call.{Exchanged}
use Rattle.bus_link.specs.declared.link.LinkEnd.{LinkEnd}
use Rattle.card_core.specs.Response.{task_to_execute}
use Rattle.card_core.specs.declared.ends.Dark.{Dark}
use Rattle.card_core.specs.declared.phase.DataPhase.{DataPhase}
use Rattle.card_link.specs.Behind.{Behind}
use Rattle.card_link.specs.Made.{CardMade}
use Rattle.card_store.specs.Store.{Contents, Stands as StoreStands}
use Rattle.cmd_words.specs.declared.command.Command.{Command}
use Rattle.cq_engine.specs.After.{after_execute, after_params}
use Rattle.cq_engine.specs.Event.{Exchanges}
use Rattle.cq_engine.specs.Outcome.{Host, Outcome, host_of, outcome_of}
use Rattle.cq_engine.specs.Words.{execute_of, params_of}
use Rattle.cq_engine.specs.declared.did.Did.{Did}
use Rattle.cq_engine.specs.declared.did.Did.TheVariants.{Sent as SentCommand}
use Rattle.cq_regs.specs.Slots.{is_rung, progress_of}
use Rattle.cq_regs.specs.State.{Registers}
use Rattle.cq_regs.specs.declared.slots.Progress.TheVariants.{Active, Named}
use Rattle.cq_schedule.specs.Held.{Places, held_at, none_held, noted}
use Rattle.cq_schedule.specs.Meaning.{IsDue, list_of, rests}
use Rattle.cq_schedule.specs.Order.{order_of}
use Rattle.cq_schedule.specs.declared.rules.Due.TheVariants.{Execute, Serve}
use Rattle.cq_task.specs.Meaning.{Means}
use Rattle.cq_task.specs.declared.slot.DataTask.{DataTask}
use Rattle.cq_task.specs.declared.slot.SlotTask.TheVariants.{Data}
use Rattle.task_queue.specs.declared.queue.Queued.{Queued}
use Rattle.raw_machine.specs.Answering.{Answers, card_of, seen}
use Rattle.raw_machine.specs.Machine.{Moment, behind_of}
use Rattle.raw_machine.specs.Moving.{marks_of, memory_after, with_marks}
use Rattle.raw_machine.specs.State.{PlainCard, RawState, places_of, turned, with_task}
use Rattle.raw_machine.specs.Tasks.{Sends, Works}
use Rattle.raw_machine.specs.Telling.{IsBetweenTasks, IsQuietScript, Keeps, Tells, plain}
use Rattle.raw_machine.proofs.Answered.{IsExchanged, exchanged}
use Rattle.raw_machine.proofs.Kept.{Has, has_noted}

-- what is told while a task is under way
pub record Partly (m : Moment) (state : RawState) : Type 0 where
  pub memory : state.memory ≡ m.machine.memory
  pub regs : state.regs ≡ m.machine.regs
  pub card : state.card ≡ plain m.machine.card state.card.contents
  pub contents : StoreStands state.card.contents m.machine.card.store m.array
  pub told : is_some m.array.told ≡ true
  pub script : IsQuietScript m.machine.script
  pub rung : All (λ r. is_rung r.progress ≡ true) m.machine.regs.ring
  pub tasks : m.machine.regs.stopped ≡ false → Keeps m.machine.engine.held m.machine.regs state.tasks

pub partly : (m : Moment) (state : RawState) → Tells m state → Partly m state
partly m state t = record {
  memory = t.memory;
  regs = t.regs;
  card = t.card;
  contents = t.contents;
  told = t.told;
  script = t.script;
  rung = t.rung;
  tasks = t.tasks;
}

pub wholly : (m : Moment) (state : RawState) → Partly m state → (m.machine.regs.stopped ≡ false → IsBetweenTasks m.machine.regs) → Tells m state
wholly m state t between = record {
  memory = t.memory;
  regs = t.regs;
  card = t.card;
  contents = t.contents;
  told = t.told;
  script = t.script;
  rung = t.rung;
  tasks = t.tasks;
  between = between;
}

-- the registers and the tasks that an event left
pub record Leaves (new : Moment) (places : Places) (left : Registers) : Type 0 where
  pub regs : new.machine.regs ≡ left
  pub held : new.machine.engine.held ≡ noted places left

pub leaves_as : (new : Moment) (did d : Did) (from held : Places) (regs left : Registers) → Leaves new from regs → outcome_of did from regs ≡ outcome_of d held left
    → Leaves new held left
leaves_as new did d from held regs left l e = record {
  regs = l.regs ∙ ap (λ (o : Outcome). o.host.regs) e;
  held = l.held ∙ ap (λ (o : Outcome). noted o.host.held o.host.regs) e;
}

-- what the card, its array and the bus are after an event
pub record Behinds (new : Moment) (card : PlainCard) : Type 0 where
  pub is : card ≡ plain new.machine.card card.contents
  pub contents : StoreStands card.contents new.machine.card.store new.array
  pub told : is_some new.array.told ≡ true
  pub script : IsQuietScript new.machine.script

pub behinds : (m : Moment) (state : RawState) → Partly m state → Behinds m state.card
behinds m state p = record { is = p.card; contents = p.contents; told = p.told; script = p.script }

-- nothing crossed the bus
pub behinds_same : (old new : Moment) (card : PlainCard) → behind_of new ≡ behind_of old → Behinds old card → Behinds new card
behinds_same old new card e b = record {
  is = b.is ∙ ap (λ c. plain c card.contents) (sym (ap (λ (x : Behind). x.card) e));
  contents = let P : Behind → Type 0 = λ x. StoreStands card.contents x.card.store x.array in subst P (sym e) b.contents;
  told = ap (λ (x : Behind). is_some x.array.told) e ∙ b.told;
  script = let P : Behind → Type 0 = λ x. IsQuietScript x.script in subst P (sym e) b.script;
}

pub partly_from : (new : Moment) (state : RawState) (held : Places) (left : Registers) → Leaves new held left → state.memory ≡ new.machine.memory → state.regs ≡ left
    → Behinds new state.card → All (λ r. is_rung r.progress ≡ true) left.ring → (left.stopped ≡ false → Has held left state.tasks) → Partly new state
partly_from new state held left l memory regs b rung tasks = record {
  memory = memory;
  regs = regs ∙ sym l.regs;
  card = b.is;
  contents = b.contents;
  told = b.told;
  script = b.script;
  rung = let P : Registers → Type 0 = λ r. All (λ x. is_rung x.progress ≡ true) r.ring in subst P (sym l.regs) rung;
  tasks = let P : Registers → Type 0 = λ r. r.stopped ≡ false → Keeps new.machine.engine.held r state.tasks in
      let Q : Places → Type 0 = λ h. left.stopped ≡ false → Keeps h left state.tasks in
      subst P (sym l.regs) (subst Q (sym l.held) (λ on. has_noted held left state.tasks (tasks on)));
}

pub tells_from : (new : Moment) (state : RawState) (held : Places) (left : Registers) → Leaves new held left → state.memory ≡ new.machine.memory → state.regs ≡ left
    → Behinds new state.card → All (λ r. is_rung r.progress ≡ true) left.ring → (left.stopped ≡ false → Has held left state.tasks)
    → (left.stopped ≡ false → IsBetweenTasks left) → Tells new state
tells_from new state held left l memory regs b rung tasks between =
    let P : Registers → Type 0 = λ r. r.stopped ≡ false → IsBetweenTasks r in
    wholly new state (partly_from new state held left l memory regs b rung tasks) (subst P (sym l.regs) between)

-- a command crossed the bus, and its answer led on, whatever tasks are held
pub record IsSent (command : Command) (after : Host → Result ℕ LinkEnd → Outcome) (card : PlainCard) (regs : Registers) (held : Places) (old new : Moment) (left : Outcome)
    : Type 0 where
  pub answer : Result ℕ Dark
  pub contents : Contents
  pub answers : Answers command card answer (plain new.machine.card contents)
  pub crossed : CardMade (behind_of old) (Exchanged command (seen answer)) (behind_of new)
  pub behind : Behinds new (plain new.machine.card contents)
  pub outcome : left ≡ after (host_of held regs) (seen answer)

pub sent_so : (command : Command) (after : Host → Result ℕ LinkEnd → Outcome) (old new : Moment) (card : PlainCard) (regs : Registers) (held : Places) (left : Outcome)
    → Behinds old card → Exchanges CardMade (behind_of old) (behind_of new) command left (after (host_of held regs))
    → IsSent command after card regs held old new left
sent_so command after old new card regs held left b e =
    let x : IsExchanged command (behind_of old) (behind_of new) card.contents e.answer =
    exchanged command (behind_of old) (behind_of new) card.contents e.answer b.script b.contents e.crossed in
    let P : PlainCard → Type 0 = λ c. Answers command c x.answer (plain new.machine.card x.is.after) in
    record {
      answer = x.answer;
      contents = x.is.after;
      answers = subst P (sym b.is) x.is.answers;
      crossed = let Q : Result ℕ LinkEnd → Type 0 = λ r. CardMade (behind_of old) (Exchanged command r) (behind_of new) in subst Q x.seen_so e.crossed;
      behind = record { is = refl; contents = x.is.stands; told = x.is.told ∙ b.told; script = x.script };
      outcome = e.outcome ∙ ap (after (host_of held regs)) x.seen_so;
    }

-- the state after a command
abbrev pub sent_state : RawState → Registers → PlainCard → RawState
sent_state state left card = record state { regs = left; card = card }

pub sends : (command : Command) (after : Host → Result ℕ LinkEnd → Outcome) (state : RawState) (answer : Result ℕ Dark) (card : PlainCard) (did : Did)
    (holds : Places → Places) (left : Registers) → Answers command state.card answer card
    → ((held : Places) → after (host_of held state.regs) (seen answer) ≡ outcome_of did (holds held) left) → Sends command after state did (sent_state state left card)
sends command after state answer card did holds left answers e = record {
  answer = answer;
  card = card;
  answers = answers;
  is = sym (ap (λ (o : Outcome). o.did) (e none_held));
  state = ap (λ regs. sent_state state regs card) (sym (ap (λ (o : Outcome). o.host.regs) (e none_held)));
}

-- The task of a slot was named to the card, and waits for its start sector.
pub record IsNaming (state : RawState) (m : Moment) : Type 0 where
  pub slot : ℕ
  pub task : DataTask
  pub below : slot < 32
  pub due : IsDue (places_of state.tasks) state.regs state.memory (Serve slot)
  pub means : Means state.memory (list_of state.regs) slot (Ok (Data task))
  pub between : RawState
  pub sends : Sends (params_of slot task.desc) (λ h. after_params h slot task) state (SentCommand (params_of slot task.desc)) between
  pub place : ℕ
  pub is_at : slice_get (order_of between.regs.ring) place ≡ Some slot
  pub named : progress_of between.regs.ring slot ≡ Named
  pub others : (other : ℕ) → other ≢ slot → (progress_of between.regs.ring other ≢ Named) × (progress_of between.regs.ring other ≢ Active)
  pub runs : rests between.regs ≡ false
  pub tells : Partly m (with_task between slot task)

-- the contents while blocks of a data phase move
abbrev pub contents_moving : RawState → DataTask → Queued → ℕ → Contents → Contents
contents_moving start task queued k c = if queued.task.read then c else with_marks (marks_of start.memory task.pieces queued k) c

abbrev pub moving_state : RawState → DataTask → Queued → ℕ → RawState
moving_state start task queued k = record start {
  memory = memory_after start.memory task.pieces start.card.contents queued k;
  card = turned (contents_moving start task queued k) start.card;
}

abbrev pub phase_at : Queued → ℕ → DataPhase
phase_at queued k = record { task = queued.task; start = queued.start; moved = min k queued.task.blocks }

-- So many blocks of the data phase of a slot moved.
pub record IsMoving (state : RawState) (m : Moment) : Type 0 where
  pub slot : ℕ
  pub task : DataTask
  pub queued : Queued
  pub command : Command
  pub start : RawState
  pub k : ℕ
  pub below : slot < 32
  pub due : IsDue (places_of state.tasks) state.regs state.memory (Execute slot)
  pub is_task : state.tasks slot ≡ Some task
  pub taken : task_to_execute (card_of state.card) task.desc.read slot ≡ Some queued
  pub direction : queued.task.read ≡ task.desc.read
  pub sends : Sends (execute_of slot task.desc) (λ h. after_execute h slot task.desc) state (SentCommand command) start
  pub place : ℕ
  pub is_at : slice_get (order_of start.regs.ring) place ≡ Some slot
  pub active : progress_of start.regs.ring slot ≡ Active
  pub others : (other : ℕ) → other ≢ slot → (progress_of start.regs.ring other ≢ Named) × (progress_of start.regs.ring other ≢ Active)
  pub runs : rests start.regs ≡ false
  pub within : k ≤ task.desc.blocks
  pub phase : m.machine.card.phase ≡ Some (phase_at queued k)
  pub held : held_at m.machine.engine.held slot ≡ Some (record { task = task; progress = Active; moved = k })
  pub tells : Partly m (moving_state start task queued k)

-- a task that is done, with what it left
pub record IsDone (state : RawState) (did : Did) (new : Moment) : Type 0 where
  pub after : RawState
  pub works : Works state did after
  pub tells : Tells new after

-- what an event leaves that begins between tasks
pub data Stage (state : RawState) (did : Did) (new : Moment) : Type 0 where
  done : IsDone state did new → Stage state did new
  naming : {command : Command} → did ≡ SentCommand command → is_poll command ≡ false → IsNaming state new → Stage state did new
  moving : {command : Command} → did ≡ SentCommand command → is_poll command ≡ false → IsMoving state new → Stage state did new
