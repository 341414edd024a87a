-- What each operation makes of the state that a script can tell, and what it prints: the engine works task by task, and the card is told by
-- its contents and the marks over them.
use Rattle.std.specs.Prelude.{◌≡◌, ◌≢◌, ℕ, false, true, nat_lt, List, [], ◌++◌, length, replicate, None, Result, Err, OnOk}
use Rattle.std.specs.Bool.{MatchBool}
use Rattle.std.specs.Option.{option_map_or}
use Rattle.card_core.specs.declared.ends.Dark.{Dark}
use Rattle.cmd_words.specs.declared.command.Command.TheVariants.{Manage}
use Rattle.cq_engine.specs.declared.did.Did.{Did}
use Rattle.cq_regs.specs.Effects.{at_reset, written}
use Rattle.cq_regs.specs.Table.{row_at}
use Rattle.ext_csd.specs.Values.{fresh}
use Rattle.host_mem.specs.Memory.{Memory}
use Rattle.intent_store.specs.declared.ends.StoreEnd.{StoreEnd}
use Rattle.raw_face.specs.Access.{IsPeekedIn, IsPokedIn, read_output, write_output}
use Rattle.raw_face.specs.Output.{Output, Shows, nothing, one}
use Rattle.raw_face.specs.Running.{output_after}
use Rattle.raw_face.specs.Sector.{discard_output, flush_output, flushed, sector_output}
use Rattle.raw_lines.specs.declared.raw_line.RawLine.{RawLine}
use Rattle.raw_lines.specs.declared.raw_line.RawLine.TheVariants.{Outside}
use Rattle.raw_machine.specs.Answering.{Answers}
use Rattle.raw_machine.specs.Machine.{Moment, zeros}
use Rattle.raw_machine.specs.Running.{end_after, goes_on, lines_of}
use Rattle.raw_machine.specs.State.{PlainCard, RawState, turned, with_registers}
use Rattle.raw_machine.specs.Tasks.{Works, WorksOn}
use Rattle.raw_machine.specs.Telling.{Tells}
use Rattle.raw_text.specs.declared.op.RawOp.{RawOp}
use Rattle.raw_text.specs.declared.op.RawOp.TheVariants.{Poke, Fill, Peek, Write, Read, Go, Show, Discard}
use Rattle.storage_model.specs.Contents.{contents_now, sector_at}
use Rattle.storage_model.specs.declared.block.Block.{Block}
use Rattle.storage_model.specs.declared.ends.Halt.{Halt}
use Rattle.storage_model.specs.declared.ends.Halt.TheVariants.{SinkFailed}
use Rattle.task_queue.specs.Queue.{empty}

-- The engine let run, task by task: tasks after each of which it goes on, and a last one after which it doesn't. Where the sink failed the
-- last one may be any after which something is printed.
pub record RawRuns (old : RawState) (result : Result (Unit {0}) Halt) (output : Output) (new : RawState) : Type 0 where
  pub lines : List RawLine
  pub between : RawState
  pub last : Did
  pub before : WorksOn old lines between
  pub event : Works between last new
  pub over : result ≢ Err SinkFailed → goes_on last new.regs ≡ false
  pub printed : result ≡ Err SinkFailed → output_after last ≢ nothing
  pub shown : output ≡ record { lines = lines ++ lines_of last; end = end_after last }

-- bytes written to the memory
pub record RawPokes (address : ℕ) (bytes : List ℕ) (old : RawState) (output : Output) (new : RawState) : Type 0 where
  pub memory : Memory
  pub poked : IsPokedIn address bytes old.memory output memory
  pub after : new ≡ record old { memory = memory }

-- bytes of the memory shown
pub record RawPeeks (address count : ℕ) (old : RawState) (output : Output) (new : RawState) : Type 0 where
  pub memory : IsPeekedIn address count old.memory output
  pub after : new ≡ old

-- a register written, by the table of registers
pub record RawWrites (reg value : ℕ) (old : RawState) (output : Output) (new : RawState) : Type 0 where
  pub shown : output ≡ write_output reg
  pub after : new ≡ with_registers old (option_map_or (λ row. written old.regs row value) (row_at reg) old.regs)

-- a register shown
pub record RawReads (reg : ℕ) (old : RawState) (output : Output) (new : RawState) : Type 0 where
  pub shown : output ≡ read_output old.regs reg
  pub after : new ≡ old

-- a sector of the card: its value now, or the array failed or was cut
pub record RawSector (sector : ℕ) (card : PlainCard) (output : Output) : Type 0 where
  pub value : Block
  pub end : Result (Unit {0}) StoreEnd
  pub reads : OnOk end (value ≡ sector_at (contents_now card.contents.base card.contents.pend) sector)
  pub shown : output ≡ sector_output value end

-- a sector of the card shown
pub record RawShows (sector : ℕ) (old : RawState) (output : Output) (new : RawState) : Type 0 where
  pub shown : MatchBool (nat_lt sector (length old.card.contents.base)) (RawSector sector old.card output) (output ≡ one Outside)
  pub after : new ≡ old

-- the card's whole queue discarded by CMD48 (JESD84-B51, section 6.6.39)
pub record RawDiscards (old : RawState) (output : Output) (new : RawState) : Type 0 where
  pub answer : Result ℕ Dark
  pub card : PlainCard
  pub answers : Answers (Manage true 0) old.card answer card
  pub shown : output ≡ discard_output answer
  pub after : new ≡ record old { card = card }

-- what an operation makes, and prints
abbrev pub RawMakes : RawOp → RawState → Result (Unit {0}) Halt → Output → RawState → Type 0
RawMakes (Poke address bytes) old result output new = RawPokes address bytes old output new
RawMakes (Fill address count value) old result output new = RawPokes address (replicate count value) old output new
RawMakes (Peek address count) old result output new = RawPeeks address count old output new
RawMakes (Write reg value) old result output new = RawWrites reg value old output new
RawMakes (Read reg) old result output new = RawReads reg old output new
RawMakes Go old result output new = RawRuns old result output new
RawMakes (Show sector) old result output new = RawShows sector old output new
RawMakes Discard old result output new = RawDiscards old output new

-- an operation was carried out, and its output printed
pub record RawDoes {K : Type 0} (took : K → List ℕ → K → Type 0) (op : RawOp) (old : RawState) (sink : K) (result : Result (Unit {0}) Halt) (new : RawState) (sink' : K)
    : Type 0 where
  pub output : Output
  pub makes : RawMakes op old result output new
  pub shows : Shows took sink output result sink'

-- the card's cache flushed: all of its contents are kept, or the array failed or was cut
pub record RawFlushes (old : RawState) (output : Output) (new : RawState) : Type 0 where
  pub end : Result (Unit {0}) StoreEnd
  pub shown : output ≡ flush_output end
  pub after : new ≡ record old { card = turned (flushed end) old.card }

-- the card's cache flushed, and the end of the script printed
pub record RawFinishes {K : Type 0} (took : K → List ℕ → K → Type 0) (old : RawState) (sink : K) (result : Result (Unit {0}) Halt) (new : RawState) (sink' : K)
    : Type 0 where
  pub output : Output
  pub flushes : RawFlushes old output new
  pub shows : Shows took sink output result sink'

-- what an operation leaves can be told again, with the same output
pub record Reaches (op : RawOp) (state : RawState) (result : Result (Unit {0}) Halt) (output : Output) (new : Moment) : Type 0 where
  pub after : RawState
  pub makes : RawMakes op state result output after
  pub tells : Tells new after

-- and so can what the flush leaves
pub record ReachesEnd (state : RawState) (output : Output) (new : Moment) : Type 0 where
  pub after : RawState
  pub flushes : RawFlushes state output after
  pub tells : Tells new after

-- A machine that was switched on over these contents: 1,048,576 bytes of 0 from 0x20000000 on, registers at reset, no task, an empty queue of
-- depth 31, an extended CSD as the driver sets it up (barriers, command queueing and the cache on), no mark, and no barrier yet.
abbrev pub switched_on_state : List Block → RawState
switched_on_state base = record {
  memory = zeros 0x2000_0000 1048576;
  regs = at_reset;
  tasks = λ slot. None;
  card = record {
    queue = empty 31;
    csd = record (fresh (length base) 31 64) { command_queue = true; barrier = true; cache = true };
    contents = record { base = base; pend = [] };
    epoch = 0;
  };
}
