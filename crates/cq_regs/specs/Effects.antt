-- What each register reads, what a write of it does, and what the calls of the engine change: every register that a line
-- does not name stays (host interface annex of JESD84-B51; drivers/mmc/host/cqhci.h).
use Rattle.std.specs.Prelude.{◌≡◌, ◌<◌, ℕ, ◌-◌, ◌^◌, ◌==◌, ◌&&◌, Bool, true, false, not, [], if◌then◌else◌}
use Rattle.std.specs.Int.{bit_at, from_bool}
use Rattle.std.specs.Int.RustNames.{bit_and, bit_or}
use Rattle.cq_regs.specs.declared.coalesce.Coalescing.{Coalescing}
use Rattle.cq_regs.specs.declared.slots.Progress.{Progress}
use Rattle.cq_regs.specs.declared.slots.Progress.TheVariants.{Idle, Ready, Rung}
use Rattle.cq_regs.specs.declared.table.Register.{Register}
use Rattle.cq_regs.specs.declared.table.Register.TheVariants.{Version, Capabilities, Configuration, Control, InterruptStatus, InterruptStatusEnable, InterruptSignalEnable, InterruptCoalescing, ListBase, ListBaseUpper, Doorbell, CompletionNotification, DeviceQueueStatus, DevicePendingTasks, TaskClear, SendStatusConfiguration1, SendStatusConfiguration2, DirectCommandResponse, ResponseErrorMask, TaskErrorInformation, CommandResponseIndex, CommandResponseArgument}
use Rattle.cq_regs.specs.declared.table.Access.{Access}
use Rattle.cq_regs.specs.declared.table.Access.TheVariants.{ReadOnly, Stored, OneClears, Acts}
use Rattle.cq_regs.specs.declared.table.Row.{Row}
use Rattle.cq_regs.specs.State.{Registers}
use Rattle.cq_regs.specs.Slots.{has_bit, is_rung, is_sent, progress_of, slots_word, sent_slots, rung, advanced, without, without_slots, Moves}
use Rattle.cq_regs.specs.Coalesce.{ic_word, ic_written, counted, ticked, reaches, restarted}

-- at reset: no register has a bit but the version and the response error mask, and no slot is rung
abbrev pub at_reset : Registers
at_reset = record {
  configuration = 0;
  halted = false;
  stopped = false;
  interrupts = 0;
  status_enable = 0;
  signal_enable = 0;
  coalescing = record { enabled = false; threshold = 0; timeout = 0; counter = 0; timer = 0 };
  list_base = 0;
  list_base_upper = 0;
  ring = [];
  completed = 0;
  queue_status = 0;
  send_status_1 = 0;
  send_status_2 = 0;
  direct_response = 0;
  error_mask = 0xc068_0080;
  error_information = 0;
  response_index = 0;
  response_argument = 0;
}

-- what a register reads
abbrev pub value_of : Registers → Register → ℕ
value_of regs Version = 0x510
value_of regs Capabilities = 0
value_of regs Configuration = regs.configuration
value_of regs Control = from_bool regs.halted
value_of regs InterruptStatus = regs.interrupts
value_of regs InterruptStatusEnable = regs.status_enable
value_of regs InterruptSignalEnable = regs.signal_enable
value_of regs InterruptCoalescing = ic_word regs.coalescing
value_of regs ListBase = regs.list_base
value_of regs ListBaseUpper = regs.list_base_upper
value_of regs Doorbell = slots_word regs.ring
value_of regs CompletionNotification = regs.completed
value_of regs DeviceQueueStatus = regs.queue_status
value_of regs DevicePendingTasks = slots_word (sent_slots regs.ring)
value_of regs TaskClear = 0
value_of regs SendStatusConfiguration1 = regs.send_status_1
value_of regs SendStatusConfiguration2 = regs.send_status_2
value_of regs DirectCommandResponse = regs.direct_response
value_of regs ResponseErrorMask = regs.error_mask
value_of regs TaskErrorInformation = regs.error_information
value_of regs CommandResponseIndex = regs.response_index
value_of regs CommandResponseArgument = regs.response_argument

-- the bits of the doorbell are those of the rung slots, and those of the device pending tasks those of the sent ones
abbrev pub ShowsSlots : Registers → Register → ℕ → Type 0
ShowsSlots regs Doorbell word = (slot : ℕ) → bit_at word slot ≡ from_bool (is_rung (progress_of regs.ring slot))
ShowsSlots regs DevicePendingTasks word = (slot : ℕ) → bit_at word slot ≡ from_bool (is_sent (progress_of regs.ring slot))
ShowsSlots regs _ word = Unit {0}

-- a register that keeps what is stored in it
abbrev pub stored : Registers → Register → ℕ → Registers
stored regs Configuration word = record regs { configuration = word }
stored regs InterruptStatus word = record regs { interrupts = word }
stored regs InterruptStatusEnable word = record regs { status_enable = word }
stored regs InterruptSignalEnable word = record regs { signal_enable = word }
stored regs ListBase word = record regs { list_base = word }
stored regs ListBaseUpper word = record regs { list_base_upper = word }
stored regs CompletionNotification word = record regs { completed = word }
stored regs SendStatusConfiguration1 word = record regs { send_status_1 = word }
stored regs SendStatusConfiguration2 word = record regs { send_status_2 = word }
stored regs ResponseErrorMask word = record regs { error_mask = word }
stored regs _ word = regs

-- the bits of the interrupt status: halt complete, task complete (the notice), response error detected, tasks cleared
abbrev pub halt_complete : ℕ
halt_complete = 1

abbrev pub task_complete : ℕ
task_complete = 2

abbrev pub response_error : ℕ
response_error = 4

abbrev pub tasks_cleared : ℕ
tasks_cleared = 8

-- a bit of the interrupt status set, where its status is enabled
abbrev pub raised : Registers → ℕ → Registers
raised regs bit = record regs { interrupts = bit_or regs.interrupts (bit_and bit regs.status_enable) }

-- all tasks cleared, and the stop of the engine ended
abbrev pub cleared : Registers → Registers
cleared regs = raised (record regs { ring = []; stopped = false }) tasks_cleared

-- a write of the control: bit 0 halts or resumes, and bit 8 clears all tasks where the engine was halted and stays so
abbrev pub controlled : Registers → ℕ → Registers
controlled regs value =
    if not (has_bit value 0) then record regs { halted = false }
    else if not regs.halted then raised (record regs { halted = true }) halt_complete
    else if has_bit value 8 then cleared regs
    else regs

-- a write of the doorbell: rings slots while the engine is enabled
abbrev pub belled : Registers → ℕ → Registers
belled regs value = if has_bit regs.configuration 0 then record regs { ring = rung regs.ring value } else regs

-- a write of the doorbell while the engine is enabled rings the slots of the word that are not rung, and one of the task clear
-- while it is halted makes those of the word idle
abbrev pub RingsSlots : Registers → Register → ℕ → Registers → Type 0
RingsSlots old Doorbell value new =
    has_bit old.configuration 0 ≡ true
    → Moves old.ring new.ring (λ slot progress. if has_bit value slot && not (is_rung progress) then Rung else progress)
RingsSlots old TaskClear value new =
    old.halted ≡ true → Moves old.ring new.ring (λ slot progress. if has_bit value slot then Idle else progress)
RingsSlots old _ value new = Unit {0}

-- a write of the task clear: clears the tasks of the word while the engine is halted
abbrev pub task_cleared : Registers → ℕ → Registers
task_cleared regs value =
    if regs.halted && not (value == 0) then raised (record regs { ring = without_slots regs.ring value }) tasks_cleared else regs

-- a write of a register with an effect of its own
abbrev pub acted : Registers → Register → ℕ → Registers
acted regs Control value = controlled regs value
acted regs InterruptCoalescing value = record regs { coalescing = ic_written regs.coalescing value }
acted regs Doorbell value = belled regs value
acted regs TaskClear value = task_cleared regs value
acted regs _ value = regs

-- a word without the bits of another
abbrev pub without_bits : (word bits : ℕ) → ℕ
without_bits word bits = bit_and word (2 ^ 32 - 1 - bits)

-- the bits that are 1 in one word are 0 now, and the others are as they were
abbrev pub LosesBits : (word ones left : ℕ) → Type 0
LosesBits word ones left = (b : ℕ) → b < 32 → has_bit left b ≡ (has_bit word b && not (has_bit ones b))

-- a write of the interrupt status or of the completion notification clears the bits that it has
abbrev pub ClearsOnes : Registers → Register → ℕ → Registers → Type 0
ClearsOnes old InterruptStatus value new = LosesBits old.interrupts value new.interrupts
ClearsOnes old CompletionNotification value new = LosesBits old.completed value new.completed
ClearsOnes old _ value new = Unit {0}

-- a write, by the table
abbrev pub written_by : Access → Registers → Register → ℕ → Registers
written_by ReadOnly regs register value = regs
written_by (Stored mask) regs register value = stored regs register (bit_and value mask)
written_by OneClears regs register value = stored regs register (without_bits (value_of regs register) value)
written_by Acts regs register value = acted regs register value

abbrev pub written : Registers → Row → ℕ → Registers
written regs row value = written_by row.access regs row.register value

-- the notice where the counter or the timer is due, which then begin anew; not where its status is not enabled
abbrev pub noticed_if : Registers → Bool → Registers
noticed_if regs due =
    if due && has_bit regs.status_enable 1 then record (raised regs task_complete) { coalescing = restarted regs.coalescing }
    else regs

abbrev pub with_coalescing : Registers → Coalescing → Registers
with_coalescing regs coalescing = record regs { coalescing = coalescing }

-- a task counted
abbrev pub counted_in : Registers → Registers
counted_in regs =
    let c = counted regs.coalescing in
    noticed_if (with_coalescing regs c) (reaches c.counter c.threshold)

-- the notice of a completed task: at once where it asks for one, else by the counter
abbrev pub notified : Registers → Bool → Registers
notified regs int =
    if int then raised regs task_complete else if regs.coalescing.enabled then counted_in regs else regs

-- a task complete: its slot is idle, and its completion is notified
abbrev pub completed : Registers → ℕ → Bool → Registers
completed regs slot int =
    notified (record regs { ring = without regs.ring slot; completed = bit_or regs.completed (2 ^ slot) }) int

-- a tick of the timer
abbrev pub ticked_in : Registers → Registers
ticked_in regs =
    let c = ticked regs.coalescing in
    if regs.coalescing.counter == 0 then regs else noticed_if (with_coalescing regs c) (reaches c.timer c.timeout)

abbrev pub is_ready : Progress → Bool
is_ready Ready = true
is_ready _ = false

-- a slot moved on; a ready one is no longer in the queue of the card
abbrev pub moved_on : Registers → ℕ → Registers
moved_on regs slot = record regs {
  ring = advanced regs.ring slot;
  queue_status = (if is_ready (progress_of regs.ring slot) then without_bits regs.queue_status (2 ^ slot) else regs.queue_status);
}
