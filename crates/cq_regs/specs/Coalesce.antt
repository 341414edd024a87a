-- Interrupt coalescing: a counter of the tasks that completed without a notice of their own, and a timer that runs while
-- it is not 0 (host interface annex of JESD84-B51; CQHCI_IC of drivers/mmc/host/cqhci.h).
use Rattle.std.specs.Prelude.{ℕ, ◌+◌, ◌*◌, ◌^◌, ◌==◌, nat_le, ◌&&◌, Bool, not, if◌then◌else◌, min}
use Rattle.std.specs.Int.{from_bool}
use Rattle.cq_words.specs.Fields.{field_of}
use Rattle.cq_regs.specs.declared.coalesce.Coalescing.{Coalescing}
use Rattle.cq_regs.specs.Slots.{has_bit}

-- the register as it reads: bit 31 whether it is enabled, 20 whether the counter is not 0, 12:8 the threshold, 6:0 the
-- timeout
abbrev pub ic_word : Coalescing → ℕ
ic_word c = from_bool c.enabled * 2 ^ 31 + from_bool (not (c.counter == 0)) * 2 ^ 20 + c.threshold * 2 ^ 8 + c.timeout

-- the register after a write: bit 31 is stored, the threshold where bit 15 is 1, the timeout where bit 7 is 1, and
-- counter and timer begin anew where bit 16 is 1
abbrev pub ic_written : Coalescing → ℕ → Coalescing
ic_written c value = record {
  enabled = has_bit value 31;
  threshold = (if has_bit value 15 then field_of value 8 5 else c.threshold);
  timeout = (if has_bit value 7 then field_of value 0 7 else c.timeout);
  counter = (if has_bit value 16 then 0 else c.counter);
  timer = (if has_bit value 16 then 0 else c.timer);
}

-- one more, and 255 at most
abbrev pub one_more : ℕ → ℕ
one_more n = min (n + 1) 255

-- a task counted
abbrev pub counted : Coalescing → Coalescing
counted c = record c { counter = one_more c.counter }

-- a tick of the timer, which runs while the counter is not 0
abbrev pub ticked : Coalescing → Coalescing
ticked c = if c.counter == 0 then c else record c { timer = one_more c.timer }

-- a number reaches a bound that is not 0 where it is at least the bound
abbrev pub reaches : (number bound : ℕ) → Bool
reaches number bound = not (bound == 0) && nat_le bound number

-- counter and timer at 0
abbrev pub restarted : Coalescing → Coalescing
restarted c = record c { counter = 0; timer = 0 }
