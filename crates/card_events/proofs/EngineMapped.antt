-- An event over a link is one over what the link is seen as.
use Rattle.std.proofs.Common.{◌≡◌, ℕ, ap}
use Rattle.std.specs.Prelude.{Bool, true, false, List, Option, Some, None, Result, Ok, Err}
use Rattle.std.specs.Bool.{MatchBool}
use Rattle.std.specs.Option.{IsSomeAnd}
use Rattle.bus_link.specs.Link.{Call}
use Rattle.bus_link.specs.Link.Call.{Closed, Exchanged, Gave, Took}
use Rattle.bus_link.specs.declared.link.LinkEnd.{LinkEnd}
use Rattle.cmd_words.specs.declared.command.Command.{Command}
use Rattle.cq_chain.specs.declared.pieces.Piece.{Piece}
use Rattle.cq_engine.specs.After.{after_address, after_block, after_close, after_execute}
use Rattle.cmd_words.specs.declared.command.Command.TheVariants.{Address as StartSector}
use Rattle.cq_engine.specs.Words.{execute_of}
use Rattle.cq_engine.specs.Event.{Closes, Does, Event, Exchanges, Gives, MovesBlock, Serves, Silent, Takes}
use Rattle.cq_engine.specs.Outcome.{Holding, Host, Outcome}
use Rattle.cq_engine.specs.declared.did.Did.{Did}
use Rattle.cq_regs.specs.State.{Registers}
use Rattle.cq_schedule.specs.declared.held.HeldTask.{HeldTask}
use Rattle.cq_schedule.specs.declared.rules.Due.{Due}
use Rattle.cq_schedule.specs.declared.rules.Due.TheVariants.{Rest, Block as NextBlock, Close, Address, Serve, Execute, Poll, Tick}
use Rattle.cq_schedule.specs.Held.{held_at}
use Rattle.cq_task.specs.declared.slot.DataTask.{DataTask}
use Rattle.cq_task.specs.declared.slot.DropCause.{DropCause}
use Rattle.cq_task.specs.declared.slot.SlotTask.{SlotTask}
use Rattle.cq_task.specs.declared.slot.SlotTask.TheVariants.{Direct, Data}
use Rattle.host_mem.specs.Memory.{Memory}
use Rattle.piece_data.specs.Data.{block_of}
use Rattle.storage_model.specs.declared.block.Block.{Block}

some_mapped : (place : Option HeldTask) (P Q : HeldTask → Type 0) → ((held : HeldTask) → P held → Q held) → IsSomeAnd place P → IsSomeAnd place Q
some_mapped None P Q f h = absurd h
some_mapped (Some held) P Q f h = f held h

module _ {L M : Type 0} (seen : L → M) (made : L → Call → L → Type 0) (made' : M → Call → M → Type 0)
    (maps : (old : L) (call : Call) (new : L) → made old call new → made' (seen old) call (seen new)) (old new : L) where
  silent_mapped : (left after : Outcome) → Silent old new left after → Silent (seen old) (seen new) left after
  silent_mapped left after s = record { link = ap seen s.link; outcome = s.outcome }

  exchanges_mapped : (command : Command) (left : Outcome) (after : Result ℕ LinkEnd → Outcome) → Exchanges made old new command left after
      → Exchanges made' (seen old) (seen new) command left after
  exchanges_mapped command left after e =
      record { answer = e.answer; crossed = maps old (Exchanged command e.answer) new e.crossed; outcome = e.outcome }

  gives_mapped : (block : Block) (left : Outcome) (after : Result (Unit {0}) LinkEnd → Outcome) → Gives made old new block left after
      → Gives made' (seen old) (seen new) block left after
  gives_mapped block left after e =
      record { answer = e.answer; crossed = maps old (Gave block e.answer) new e.crossed; outcome = e.outcome }

  takes_mapped : (pieces : List Piece) (k : ℕ) (memory memory' : Memory) (left : Outcome) (after : Result (Unit {0}) LinkEnd → Outcome)
      → Takes made old new pieces k memory memory' left after → Takes made' (seen old) (seen new) pieces k memory memory' left after
  takes_mapped pieces k memory memory' left after e = record {
    block = e.block;
    answer = e.answer;
    crossed = maps old (Took e.block e.answer) new e.crossed;
    written = e.written;
    space = e.space;
    others = e.others;
    blocks = e.blocks;
    outcome = e.outcome;
  }

  closes_mapped : (left : Outcome) (after : Result ℕ LinkEnd → Outcome) → Closes made old new left after
      → Closes made' (seen old) (seen new) left after
  closes_mapped left after e =
      record { answer = e.answer; crossed = maps old (Closed e.answer) new e.crossed; outcome = e.outcome }

  serves_mapped : (host : Host) (slot : ℕ) (outcome : Outcome) (meaning : Result SlotTask DropCause) → Serves made old new host slot outcome meaning
      → Serves made' (seen old) (seen new) host slot outcome meaning
  serves_mapped host slot outcome (Ok (Direct desc)) s = exchanges_mapped _ outcome _ s
  serves_mapped host slot outcome (Ok (Data task)) s = exchanges_mapped _ outcome _ s
  serves_mapped host slot outcome (Err why) s = silent_mapped outcome _ s

  moves_mapped : (host : Host) (memory memory' : Memory) (slot k : ℕ) (outcome : Outcome) (task : DataTask) (read : Bool)
      → MatchBool read (Takes made old new task.pieces k memory memory' outcome (after_block host slot task.desc))
      (Gives made old new (block_of memory task.pieces k) outcome (after_block host slot task.desc) × (memory' ≡ memory))
      → MatchBool read (Takes made' (seen old) (seen new) task.pieces k memory memory' outcome (after_block host slot task.desc))
      (Gives made' (seen old) (seen new) (block_of memory task.pieces k) outcome (after_block host slot task.desc) × (memory' ≡ memory))
  moves_mapped host memory memory' slot k outcome task true d = takes_mapped task.pieces k memory memory' outcome _ d
  moves_mapped host memory memory' slot k outcome task false d = (gives_mapped _ outcome _ d.0, d.1)

  does_mapped : (host : Host) (memory memory' : Memory) (outcome : Outcome) (due : Due) → Does made old new host memory memory' outcome due
      → Does made' (seen old) (seen new) host memory memory' outcome due
  does_mapped host memory memory' outcome Rest d = (silent_mapped outcome _ d.0, d.1)
  does_mapped host memory memory' outcome Tick d = (silent_mapped outcome _ d.0, d.1)
  does_mapped host memory memory' outcome (Serve slot) d =
      (record { meaning = d.0.meaning; means = d.0.means; serves = serves_mapped host slot outcome d.0.meaning d.0.serves }, d.1)
  does_mapped host memory memory' outcome (Address slot) d = (
    some_mapped (held_at host.held slot)
        (λ held. Exchanges made old new (StartSector held.task.desc.start) outcome (after_address host slot held.task.desc))
        (λ held. Exchanges made' (seen old) (seen new) (StartSector held.task.desc.start) outcome (after_address host slot held.task.desc))
        (λ held e. exchanges_mapped _ outcome _ e) d.0,
    d.1,
  )
  does_mapped host memory memory' outcome (Execute slot) d = (
    some_mapped (held_at host.held slot)
        (λ held. Exchanges made old new (execute_of slot held.task.desc) outcome (after_execute host slot held.task.desc))
        (λ held. Exchanges made' (seen old) (seen new) (execute_of slot held.task.desc) outcome (after_execute host slot held.task.desc))
        (λ held e. exchanges_mapped _ outcome _ e) d.0,
    d.1,
  )
  does_mapped host memory memory' outcome Poll d = (exchanges_mapped _ outcome _ d.0, d.1)
  does_mapped host memory memory' outcome (NextBlock slot k) d =
      some_mapped (held_at host.held slot)
      (λ held. MovesBlock made old new host memory memory' slot k outcome held.task)
      (λ held. MovesBlock made' (seen old) (seen new) host memory memory' slot k outcome held.task)
      (λ held e. moves_mapped host memory memory' slot k outcome held.task held.task.desc.read e) d
  does_mapped host memory memory' outcome (Close slot) d = (
    some_mapped (held_at host.held slot)
        (λ held. Closes made old new outcome (after_close host slot held.task.desc))
        (λ held. Closes made' (seen old) (seen new) outcome (after_close host slot held.task.desc))
        (λ held e. closes_mapped outcome _ e) d.0,
    d.1,
  )

  pub event_mapped : (engine engine' : Holding) (regs regs' : Registers) (memory memory' : Memory) (did : Did)
      → Event made old new engine engine' regs regs' memory memory' did
      → Event made' (seen old) (seen new) engine engine' regs regs' memory memory' did
  event_mapped engine engine' regs regs' memory memory' did e = record {
    left = e.left;
    acts = record { due = e.acts.due; is_due = e.acts.is_due; slot = e.acts.slot; does = does_mapped _ memory memory' _ e.acts.due e.acts.does };
    registers = e.registers;
    keeps = e.keeps;
  }
