-- Accesses of the host's memory and of the registers, and what they print.
use Rattle.std.specs.Prelude.{◌≡◌, ◌⊎◌, ℕ, List, length}
use Rattle.std.specs.Option.{option_map_or}
use Rattle.cq_regs.specs.Effects.{value_of}
use Rattle.cq_regs.specs.State.{Registers}
use Rattle.cq_regs.specs.Table.{row_at}
use Rattle.host_mem.specs.Memory.{HasRange, Memory, bytes_of, with_bytes}
use Rattle.raw_face.specs.Output.{Output, nothing, one}
use Rattle.raw_lines.specs.declared.raw_line.RawLine.TheVariants.{Memory as MemoryLine, NoRegister, Outside, Register}

-- all bytes of a range are in the memory, and this is so; or one isn't, and that is so
abbrev pub IfInside : Memory → (address count : ℕ) → (inside outside : Type 0) → Type 0
IfInside memory address count inside outside =
    (HasRange memory address count × inside) ⊎ ((¬ HasRange memory address count) × outside)

-- bytes written to the memory; where one of them is outside, none is
abbrev pub IsPokedIn : (address : ℕ) → List ℕ → Memory → Output → Memory → Type 0
IsPokedIn address bytes memory output memory' =
    IfInside memory address (length bytes)
    ((memory' ≡ with_bytes memory address bytes) × (output ≡ nothing))
    ((memory' ≡ memory) × (output ≡ one Outside))

-- bytes of the memory shown
abbrev pub IsPeekedIn : (address count : ℕ) → Memory → Output → Type 0
IsPeekedIn address count memory output =
    IfInside memory address count (output ≡ one (MemoryLine (bytes_of memory address count))) (output ≡ one Outside)

-- what a write of a register prints
abbrev pub write_output : ℕ → Output
write_output reg = option_map_or (λ row. nothing) (row_at reg) (one (NoRegister reg))

-- a register shown
abbrev pub read_output : Registers → ℕ → Output
read_output regs reg = one (option_map_or (λ row. Register reg (value_of regs row.register)) (row_at reg) (NoRegister reg))
