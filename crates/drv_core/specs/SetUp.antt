-- The registers that the driver writes before a run, with the host interface enabled last (__cqhci_enable of
-- drivers/mmc/host/cqhci-core.c).
use Rattle.std.specs.Prelude.{ℕ, ◌+◌, ◌*◌, ◌==◌, Bool, if◌then◌else◌}
use Rattle.storage_model.specs.declared.plan.Plan.{Plan}
use Rattle.cq_regs.specs.State.{Registers}
use Rattle.cq_regs.specs.Coalesce.{ic_written}
use Rattle.drv_core.specs.declared.set_up.TheConstants.{LIST_BASE}
use Rattle.drv_core.specs.State.{upper_base}

-- interrupt coalescing: enabled with its threshold and a timeout of 1, or off
abbrev pub coalescing_word : ℕ → ℕ
coalescing_word threshold = if threshold == 0 then 0 else 0x8000_8081 + 0x100 * threshold

-- enabled, with direct commands, and with descriptors of 128 bits where they are wide
abbrev pub configuration_word : (wide : Bool) → ℕ
configuration_word wide = if wide then 0x1101 else 0x1001

-- the task notice enabled and signalled, the card's address, the list's base, the coalescing, and the configuration
abbrev pub set_up : Plan → Registers → Registers
set_up plan regs = record regs {
  status_enable = 2;
  signal_enable = 2;
  send_status_2 = 1;
  list_base = LIST_BASE;
  list_base_upper = upper_base plan.wide;
  coalescing = ic_written regs.coalescing (coalescing_word plan.coalesce);
  configuration = configuration_word plan.wide;
}
