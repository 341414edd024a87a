-- The acceptance of traces: the state after the lines, or the lowest rule that the first bad line breaks.
use Rattle.std.specs.Prelude.{◌≡◌, ℕ, true, false, Option, Some, None, Result, Ok, Err, List, [], ◌∷◌, ◌++◌, length, replicate}
use Rattle.trace_effects.specs.Effects.{effect}
use Rattle.trace_rules.specs.Lines.{line_rule}
use Rattle.storage_machine.specs.Slots.{no_tasks}
use Rattle.trace_rules.specs.Steps.{earlier, event_rule, lower}
use Rattle.storage_machine.specs.declared.state.Event.TheVariants.{Untold}
use Rattle.storage_machine.specs.declared.state.Owed.TheVariants.{Card}
use Rattle.storage_machine.specs.declared.state.Recovery.TheVariants.{Calm}
use Rattle.storage_machine.specs.declared.state.State.{State}
use Rattle.storage_machine.specs.declared.state.Stop.TheVariants.{Running}
use Rattle.storage_model.specs.declared.block.Block.{Block}
use Rattle.storage_model.specs.declared.faults.Faults.{Faults}
use Rattle.storage_model.specs.declared.plan.Plan.{Plan}
use Rattle.storage_model.specs.declared.trace.Item.{Item}
use Rattle.storage_order.specs.Order.{order_rule, settled}
use Rattle.storage_order.specs.declared.accept.Refuse.{Refuse}
use Rattle.storage_order.specs.declared.accept.Refuse.TheVariants.{Rule, NoMemory}

-- the state before the first line
unfoldable pub started : List Block → Plan → Faults → State
started base plan faults = record {
  plan = plan;
  faults = faults;
  base = base;
  pend = [];
  waiting = replicate (length plan.jobs) true;
  named = replicate (length plan.jobs) 0;
  slots = no_tasks;
  order = [];
  «data» = replicate 32 [];
  n = 0;
  bars = 0;
  words = 0;
  letters = 0;
  cuts = replicate (length faults.cuts) false;
  busy = false;
  spent = 0;
  stop = Running;
  recovery = Calm;
  notice = false;
  count = 0;
  staged = false;
  kept = false;
  event = Untold;
  owed = Card;
  worked = false;
  deferred = false;
  lefts = [];
  epochs = [];
}

-- the lowest rule that a line breaks
unfoldable pub broken_rule : State → Item → Option ℕ
broken_rule s item = earlier (line_rule (settled s item) item) (lower (order_rule s item) (event_rule (settled s item) item))

-- the state after an accepted line
abbrev pub accepted : State → Item → State
accepted s item = effect (settled s item) item

-- a refusal names the lowest rule that is broken
abbrev pub IsCause : Option ℕ → Refuse → Type 0
IsCause rule (Rule number) = rule ≡ Some number
IsCause rule NoMemory = Unit {0}

-- the state after the lines, or the lowest rule that the first bad one breaks
abbrev pub accept_next : State → Item → Option ℕ → (State → Result State ℕ) → Result State ℕ
accept_next s item None rest = rest (accepted s item)
accept_next s item (Some rule) rest = Err rule

abbrev pub accept_from : List Item → State → Result State ℕ
accept_from [] s = Ok s
accept_from (item ∷ items) s = accept_next s item (broken_rule s item) (accept_from items)

unfoldable pub accept : List Block → Plan → Faults → List Item → Result State ℕ
accept base plan faults items = accept_from items (started base plan faults)

-- lines are refused with a rule, whatever follows
abbrev pub IsRefused : State → List Item → Refuse → Type 0
IsRefused s items (Rule number) = (more : List Item) → accept_from (items ++ more) s ≡ Err number
IsRefused s items NoMemory = Unit {0}
