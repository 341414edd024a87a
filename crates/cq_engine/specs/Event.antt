-- An event of the engine: what is due, the one call of the link that it makes, and what its answer leads to (host interface
-- annex of JESD84-B51).
use Rattle.std.specs.Prelude.{◌≡◌, ℕ, ◌*◌, List, OnOk, Result, Ok, Err}
use Rattle.std.specs.Bool.{MatchBool}
use Rattle.std.specs.Option.{IsSomeAnd, option_or}
use Rattle.storage_model.specs.declared.block.Block.{Block}
use Rattle.bus_link.specs.declared.link.LinkEnd.{LinkEnd}
use Rattle.bus_link.specs.Link.{Call}
use Rattle.bus_link.specs.Link.Call.{Closed, Exchanged, Gave, Took}
use Rattle.host_mem.specs.Memory.{Memory}
use Rattle.cmd_words.specs.declared.command.Command.{Command}
use Rattle.cmd_words.specs.declared.command.Command.TheVariants.{Address as StartSector}
use Rattle.cq_chain.specs.declared.pieces.Piece.{Piece}
use Rattle.cq_regs.specs.State.{Registers}
use Rattle.cq_regs.specs.Effects.{ticked_in}
use Rattle.cq_task.specs.declared.slot.DataTask.{DataTask}
use Rattle.cq_task.specs.declared.slot.DropCause.{DropCause}
use Rattle.cq_task.specs.declared.slot.SlotTask.{SlotTask}
use Rattle.cq_task.specs.declared.slot.SlotTask.TheVariants.{Direct, Data}
use Rattle.cq_task.specs.Meaning.{Means}
use Rattle.cq_schedule.specs.declared.rules.Due.{Due}
use Rattle.cq_schedule.specs.declared.rules.Due.TheVariants.{Rest, Block as NextBlock, Close, Address, Serve, Execute, Poll, Tick}
use Rattle.cq_schedule.specs.Held.{held_at, noted, remembered}
use Rattle.cq_schedule.specs.Meaning.{HasItsSlot, IsDue, list_of}
use Rattle.piece_data.specs.Data.{block_of, parts, with_block}
use Rattle.piece_data.specs.Laws.{AreApart, ChangesBlock, HasSameSpace, KeepsOthers}
use Rattle.cq_engine.specs.declared.did.Did.{Did}
use Rattle.cq_engine.specs.declared.did.Did.TheVariants.{Idle}
use Rattle.cq_engine.specs.Words.{direct_of, execute_of, params_of, poll_of}
use Rattle.cq_engine.specs.Outcome.{Holding, Host, Outcome, stop_of, with_regs}
use Rattle.cq_engine.specs.After.{after_address, after_block, after_close, after_direct, after_execute, after_params, after_poll, dropped}

-- nothing crossed the link
pub record Silent {L : Type 0} (old new : L) (left after : Outcome) : Type 0 where
  pub link : new ≡ old
  pub outcome : left ≡ after

-- a command crossed the link, and its answer led on
pub record Exchanges {L : Type 0} (made : L → Call → L → Type 0) (old new : L) (command : Command) (left : Outcome)
    (after : Result ℕ LinkEnd → Outcome) : Type 0 where
  pub answer : Result ℕ LinkEnd
  pub crossed : made old (Exchanged command answer) new
  pub outcome : left ≡ after answer

-- a block was written, and the answer led on
pub record Gives {L : Type 0} (made : L → Call → L → Type 0) (old new : L) (block : Block) (left : Outcome)
    (after : Result (Unit {0}) LinkEnd → Outcome) : Type 0 where
  pub answer : Result (Unit {0}) LinkEnd
  pub crossed : made old (Gave block answer) new
  pub outcome : left ≡ after answer

-- the memory after a block was read into pieces: none of it is written where the call has no block
abbrev pub read_into : Memory → List Piece → (k : ℕ) → Block → Result (Unit {0}) LinkEnd → Memory
read_into memory pieces k block (Ok _) = with_block memory pieces k block
read_into memory pieces k block (Err end) = memory

-- a block was read into the pieces, where it is block k of their data now if they are apart, and the answer led on
pub record Takes {L : Type 0} (made : L → Call → L → Type 0) (old new : L) (pieces : List Piece) (k : ℕ) (memory memory' : Memory)
    (left : Outcome) (after : Result (Unit {0}) LinkEnd → Outcome) : Type 0 where
  pub block : Block
  pub answer : Result (Unit {0}) LinkEnd
  pub crossed : made old (Took block answer) new
  pub written : memory' ≡ read_into memory pieces k block answer
  pub space : HasSameSpace memory memory'
  pub others : KeepsOthers (parts pieces (512 * k) 512) memory memory'
  pub blocks : AreApart pieces → OnOk answer (ChangesBlock pieces memory memory' k block)
  pub outcome : left ≡ after answer

-- a data phase was ended, and its word led on
pub record Closes {L : Type 0} (made : L → Call → L → Type 0) (old new : L) (left : Outcome) (after : Result ℕ LinkEnd → Outcome)
    : Type 0 where
  pub answer : Result ℕ LinkEnd
  pub crossed : made old (Closed answer) new
  pub outcome : left ≡ after answer

-- a slot is served by what it means
abbrev pub Serves : {L : Type 0} → (L → Call → L → Type 0) → (old new : L) → Host → ℕ → Outcome → Result SlotTask DropCause → Type 0
Serves made old new host slot outcome (Ok (Direct desc)) =
    Exchanges made old new (direct_of desc) outcome (after_direct host slot desc)
Serves made old new host slot outcome (Ok (Data task)) =
    Exchanges made old new (params_of slot task.desc) outcome (after_params host slot task)
Serves made old new host slot outcome (Err why) = Silent old new outcome (dropped host slot why)

pub record IsServed {L : Type 0} (made : L → Call → L → Type 0) (old new : L) (host : Host) (memory : Memory) (slot : ℕ)
    (outcome : Outcome) : Type 0 where
  pub meaning : Result SlotTask DropCause
  pub means : Means memory (list_of host.regs) slot meaning
  pub serves : Serves made old new host slot outcome meaning

-- a block of the task moves between the link and its pieces
abbrev pub MovesBlock : {L : Type 0} → (L → Call → L → Type 0) → (old new : L) → Host → (memory memory' : Memory) → (slot k : ℕ) → Outcome → DataTask → Type 0
MovesBlock made old new host memory memory' slot k outcome task =
    MatchBool task.desc.read
    (Takes made old new task.pieces k memory memory' outcome (after_block host slot task.desc))
    (Gives made old new (block_of memory task.pieces k) outcome (after_block host slot task.desc) × (memory' ≡ memory))

-- what is done for what is due
abbrev pub Does : {L : Type 0} → (L → Call → L → Type 0) → (old new : L) → Host → (memory memory' : Memory) → Outcome → Due → Type 0
Does made old new host memory memory' outcome Rest =
    Silent old new outcome (record { did = Idle; host = host }) × (memory' ≡ memory)
Does made old new host memory memory' outcome Tick =
    Silent old new outcome (record { did = Idle; host = with_regs host (ticked_in host.regs) }) × (memory' ≡ memory)
Does made old new host memory memory' outcome (Serve slot) =
    IsServed made old new host memory slot outcome × (memory' ≡ memory)
Does made old new host memory memory' outcome (Address slot) =
    IsSomeAnd (held_at host.held slot) (λ held. Exchanges made old new (StartSector held.task.desc.start) outcome (after_address host slot held.task.desc))
    × (memory' ≡ memory)
Does made old new host memory memory' outcome (Execute slot) =
    IsSomeAnd (held_at host.held slot) (λ held. Exchanges made old new (execute_of slot held.task.desc) outcome (after_execute host slot held.task.desc))
    × (memory' ≡ memory)
Does made old new host memory memory' outcome Poll =
    Exchanges made old new (poll_of host.regs) outcome (after_poll host) × (memory' ≡ memory)
Does made old new host memory memory' outcome (NextBlock slot k) =
    IsSomeAnd (held_at host.held slot) (λ held. MovesBlock made old new host memory memory' slot k outcome held.task)
Does made old new host memory memory' outcome (Close slot) =
    IsSomeAnd (held_at host.held slot) (λ held. Closes made old new outcome (after_close host slot held.task.desc))
    × (memory' ≡ memory)

-- what is due is done
pub record Acts {L : Type 0} (made : L → Call → L → Type 0) (old new : L) (host : Host) (memory memory' : Memory) (outcome : Outcome)
    : Type 0 where
  pub due : Due
  pub is_due : IsDue host.held host.regs memory due
  pub slot : HasItsSlot host.held host.regs due
  pub does : Does made old new host memory memory' outcome due

-- the tasks that the engine keeps, each with how far its slot is now, and what it stopped for last
abbrev pub kept_by : Holding → Outcome → Holding
kept_by engine outcome =
    record { held = noted outcome.host.held outcome.host.regs; cause = option_or (stop_of outcome.did) engine.cause }

-- an event: the engine forgets the tasks of slots that are no longer as far as it left them; then what is due is done
pub record Event {L : Type 0} (made : L → Call → L → Type 0) (old new : L) (engine engine' : Holding) (regs regs' : Registers)
    (memory memory' : Memory) (did : Did) : Type 0 where
  pub left : Host
  pub acts : Acts made old new (record { held = remembered engine.held regs; regs = regs }) memory memory' (record { did = did; host = left })
  pub registers : regs' ≡ left.regs
  pub keeps : engine' ≡ kept_by engine (record { did = did; host = left })
