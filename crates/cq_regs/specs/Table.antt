-- The table of registers: where each stands, what it reads at reset, and what a write of it does (host interface annex of
-- JESD84-B51; the offsets are those of CQHCI_VER to CQHCI_CRA of drivers/mmc/host/cqhci.h).
use Rattle.std.specs.Prelude.{ℕ, List, [], ◌∷◌, Option, ◌==◌}
use Rattle.std.specs.List.{find}
use Rattle.cq_regs.specs.declared.table.Register.{Register}
use Rattle.cq_regs.specs.declared.table.Register.TheVariants.{Version, Capabilities, Configuration, Control, InterruptStatus, InterruptStatusEnable, InterruptSignalEnable, InterruptCoalescing, ListBase, ListBaseUpper, Doorbell, CompletionNotification, DeviceQueueStatus, DevicePendingTasks, TaskClear, SendStatusConfiguration1, SendStatusConfiguration2, DirectCommandResponse, ResponseErrorMask, TaskErrorInformation, CommandResponseIndex, CommandResponseArgument}
use Rattle.cq_regs.specs.declared.table.Access.{Access}
use Rattle.cq_regs.specs.declared.table.Access.TheVariants.{ReadOnly, Stored, OneClears, Acts}
use Rattle.cq_regs.specs.declared.table.Row.{Row}

abbrev pub row : ℕ → Register → ℕ → Access → Row
row offset register reset access = record { offset = offset; register = register; reset = reset; access = access }

abbrev pub rows : List Row
rows =
    row 0x00 Version 0x510 ReadOnly ∷
    row 0x04 Capabilities 0 ReadOnly ∷
    row 0x08 Configuration 0 (Stored 0x1101) ∷
    row 0x0c Control 0 Acts ∷
    row 0x10 InterruptStatus 0 OneClears ∷
    row 0x14 InterruptStatusEnable 0 (Stored 0xf) ∷
    row 0x18 InterruptSignalEnable 0 (Stored 0xf) ∷
    row 0x1c InterruptCoalescing 0 Acts ∷
    row 0x20 ListBase 0 (Stored 0xffff_ffff) ∷
    row 0x24 ListBaseUpper 0 (Stored 0xffff_ffff) ∷
    row 0x28 Doorbell 0 Acts ∷
    row 0x2c CompletionNotification 0 OneClears ∷
    row 0x30 DeviceQueueStatus 0 ReadOnly ∷
    row 0x34 DevicePendingTasks 0 ReadOnly ∷
    row 0x38 TaskClear 0 Acts ∷
    row 0x40 SendStatusConfiguration1 0 (Stored 0xf_ffff) ∷
    row 0x44 SendStatusConfiguration2 0 (Stored 0xffff) ∷
    row 0x48 DirectCommandResponse 0 ReadOnly ∷
    row 0x50 ResponseErrorMask 0xc068_0080 (Stored 0xffff_ffff) ∷
    row 0x54 TaskErrorInformation 0 ReadOnly ∷
    row 0x58 CommandResponseIndex 0 ReadOnly ∷
    row 0x5c CommandResponseArgument 0 ReadOnly ∷
    []

-- the line of an offset
abbrev pub row_at : ℕ → Option Row
row_at offset = find (λ row. row.offset == offset) rows

-- where a register stands
abbrev pub offset_of : Register → ℕ
offset_of Version = 0x00
offset_of Capabilities = 0x04
offset_of Configuration = 0x08
offset_of Control = 0x0c
offset_of InterruptStatus = 0x10
offset_of InterruptStatusEnable = 0x14
offset_of InterruptSignalEnable = 0x18
offset_of InterruptCoalescing = 0x1c
offset_of ListBase = 0x20
offset_of ListBaseUpper = 0x24
offset_of Doorbell = 0x28
offset_of CompletionNotification = 0x2c
offset_of DeviceQueueStatus = 0x30
offset_of DevicePendingTasks = 0x34
offset_of TaskClear = 0x38
offset_of SendStatusConfiguration1 = 0x40
offset_of SendStatusConfiguration2 = 0x44
offset_of DirectCommandResponse = 0x48
offset_of ResponseErrorMask = 0x50
offset_of TaskErrorInformation = 0x54
offset_of CommandResponseIndex = 0x58
offset_of CommandResponseArgument = 0x5c
