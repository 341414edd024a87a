-- What a raw script drives: the host's memory, the registers of the host interface, the engine, the card and the bus to it.
use Rattle.std.specs.Prelude.{◌≡◌, ℕ, [], true, false, replicate}
use Rattle.array_edge.specs.Array.{ArrayState}
use Rattle.bus_link.specs.Script.{Script, at_start}
use Rattle.card_core.specs.Card.{CardState, idle_card}
use Rattle.card_link.specs.Behind.{Behind, behind}
use Rattle.card_store.specs.Store.{IsOpen, Store}
use Rattle.cq_engine.specs.Holds.{Holds, LieIn}
use Rattle.cq_engine.specs.Outcome.{Holding, holds_nothing}
use Rattle.cq_regs.specs.Effects.{at_reset}
use Rattle.cq_regs.specs.State.{Registers}
use Rattle.host_mem.specs.Memory.{Memory}

pub record Machine : Type 0 where
  pub memory : Memory
  pub regs : Registers
  pub engine : Holding
  pub card : CardState
  pub script : Script

-- a machine, and the array behind its card
pub record Moment : Type 0 where
  pub machine : Machine
  pub array : ArrayState

abbrev pub moment : Machine → ArrayState → Moment
moment machine array = record { machine = machine; array = array }

-- what the engine's link leads to
abbrev pub behind_of : Moment → Behind
behind_of m = behind m.machine.card m.array m.machine.script

-- so many bytes of 0 from an address on
unfoldable pub zeros : (base count : ℕ) → Memory
zeros base count = record { base = base; bytes = replicate count 0 }

-- A machine that is not switched on: 1,048,576 bytes of 0 from 0x20000000 on, registers at reset, an engine without a task, a
-- card of depth 31 with 64 lines, and a bus without faults at which all queued tasks are ready at each poll.
abbrev pub switched_off : Store → Machine
switched_off store = record {
  memory = zeros 0x2000_0000 1048576;
  regs = at_reset;
  engine = holds_nothing;
  card = idle_card 31 64 false store;
  script = at_start [] [];
}

-- what holds between operations: the card's image is open and its power on, and the engine holds what its next event asks for
pub record Stands (machine : Machine) (array : ArrayState) : Type 0 where
  pub is_open : IsOpen machine.card.store array
  pub powered : array.powered ≡ true
  pub holds : Holds machine.engine machine.regs
  pub lie : LieIn machine.memory machine.engine.held
