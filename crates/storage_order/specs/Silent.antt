-- What an event that prints nothing may change.
use Rattle.storage_machine.specs.declared.state.State.{State}
use Rattle.storage_order.specs.declared.order.Silent.{Silent}

-- the state with these parts as they were
abbrev pub with_silent : State → Silent → State
with_silent s silent = record s {
  slots = silent.slots;
  recovery = silent.recovery;
  busy = silent.busy;
  spent = silent.spent;
  notice = silent.notice;
  count = silent.count;
  event = silent.event;
  owed = silent.owed;
}
