-- What each operation makes of the machine and its array, and what it prints.
use Rattle.std.specs.Prelude.{◌≡◌, ℕ, List, replicate, Result}
use Rattle.std.specs.Option.{option_map_or}
use Rattle.card_core.specs.Card.{CardState}
use Rattle.cq_regs.specs.Effects.{written}
use Rattle.cq_regs.specs.State.{Registers}
use Rattle.cq_regs.specs.Table.{row_at}
use Rattle.host_mem.specs.Memory.{Memory}
use Rattle.raw_face.specs.ByTask.{Reaches, ReachesEnd}
use Rattle.raw_face.specs.Access.{IsPeekedIn, IsPokedIn, read_output, write_output}
use Rattle.raw_machine.specs.Machine.{Machine, Moment, moment}
use Rattle.raw_machine.specs.State.{RawState}
use Rattle.raw_machine.specs.Telling.{Tells}
use Rattle.raw_face.specs.Output.{HasCauses, Output, Shows}
use Rattle.raw_face.specs.Running.{Runs}
use Rattle.raw_face.specs.Sector.{HasFlushed, IsDiscarded, IsShown}
use Rattle.raw_text.specs.declared.op.RawOp.{RawOp}
use Rattle.raw_text.specs.declared.op.RawOp.TheVariants.{Poke, Fill, Peek, Write, Read, Go, Show, Discard}
use Rattle.storage_model.specs.declared.ends.Halt.{Halt}

abbrev pub with_memory : Machine → Memory → Machine
with_memory machine memory = record machine { memory = memory }

abbrev pub with_regs : Machine → Registers → Machine
with_regs machine regs = record machine { regs = regs }

abbrev pub with_card : Machine → CardState → Machine
with_card machine card = record machine { card = card }

-- bytes written to the memory
pub record IsPoked (address : ℕ) (bytes : List ℕ) (old : Moment) (output : Output) (new : Moment) : Type 0 where
  pub memory : IsPokedIn address bytes old.machine.memory output new.machine.memory
  pub after : new ≡ moment (with_memory old.machine new.machine.memory) old.array

-- bytes of the memory shown
pub record IsPeeked (address count : ℕ) (old : Moment) (output : Output) (new : Moment) : Type 0 where
  pub memory : IsPeekedIn address count old.machine.memory output
  pub after : new ≡ old

-- a register written, by the table of registers
pub record IsWritten (reg value : ℕ) (old : Moment) (output : Output) (new : Moment) : Type 0 where
  pub shown : output ≡ write_output reg
  pub after : new ≡ moment (with_regs old.machine (option_map_or (λ row. written old.machine.regs row value) (row_at reg) old.machine.regs)) old.array

-- a register shown
pub record IsRead (reg : ℕ) (old : Moment) (output : Output) (new : Moment) : Type 0 where
  pub shown : output ≡ read_output old.machine.regs reg
  pub after : new ≡ old

-- a sector of the card shown
pub record ShowsSector (sector : ℕ) (old : Moment) (output : Output) (new : Moment) : Type 0 where
  pub card : IsShown sector old.machine.card old.array output new.machine.card new.array
  pub machine : new.machine ≡ with_card old.machine new.machine.card

-- the queue of the card discarded
pub record Discards (old : Moment) (output : Output) (new : Moment) : Type 0 where
  pub card : IsDiscarded old.machine.card old.array output new.machine.card new.array
  pub machine : new.machine ≡ with_card old.machine new.machine.card

-- what an operation makes, and prints
abbrev pub Makes : RawOp → Moment → Result (Unit {0}) Halt → Output → Moment → Type 0
Makes (Poke address bytes) old result output new = IsPoked address bytes old output new
Makes (Fill address count value) old result output new = IsPoked address (replicate count value) old output new
Makes (Peek address count) old result output new = IsPeeked address count old output new
Makes (Write reg value) old result output new = IsWritten reg value old output new
Makes (Read reg) old result output new = IsRead reg old output new
Makes Go old result output new = Runs old result output new
Makes (Show sector) old result output new = ShowsSector sector old output new
Makes Discard old result output new = Discards old output new

-- an operation was carried out, and its output printed; where the machine was in a state that a script can tell, it is so again
pub record Does {K : Type 0} (took : K → List ℕ → K → Type 0) (op : RawOp) (old : Moment) (sink : K) (result : Result (Unit {0}) Halt) (new : Moment) (sink' : K)
    : Type 0 where
  pub output : Output
  pub makes : Makes op old result output new
  pub by_task : (state : RawState) → Tells old state → Reaches op state result output new
  pub shows : Shows took sink output result sink'
  pub causes : HasCauses old.array new.array output

-- the card's cache flushed, and the end of the script printed; where the machine was in a state that a script can tell, it is so again
pub record Finishes {K : Type 0} (took : K → List ℕ → K → Type 0) (old : Moment) (sink : K) (result : Result (Unit {0}) Halt) (new : Moment) (sink' : K)
    : Type 0 where
  pub output : Output
  pub card : HasFlushed old.machine.card old.array output new.machine.card new.array
  pub machine : new.machine ≡ with_card old.machine new.machine.card
  pub by_task : (state : RawState) → Tells old state → ReachesEnd state output new
  pub shows : Shows took sink output result sink'
  pub causes : HasCauses old.array new.array output
