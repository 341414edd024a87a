-- What the private functions answer at one descriptor of a chain.
use Rattle.std.specs.Prelude.{ℕ, ◌+◌, ◌-◌, ◌==◌, ◌||◌, ◌&&◌, nat_le, nat_lt, Bool, length, if◌then◌else◌, Result, Ok, Err}
use Rattle.host_mem.specs.Memory.{Memory}
use Rattle.cq_desc.specs.declared.fault.DescFault.{DescFault}
use Rattle.cq_desc.specs.declared.fault.DescFault.TheVariants as desc_fault
use Rattle.cq_desc.specs.declared.xfer.Xfer.{Xfer}
use Rattle.cq_desc.specs.declared.xfer.Xfer.TheVariants.{Piece as Transfer, Link, Nop}
use Rattle.cq_chain.specs.declared.fault.ChainFault.{ChainFault}
use Rattle.cq_chain.specs.declared.fault.ChainFault.TheVariants.{Hole, NotValid, BadAct, Long}
use Rattle.cq_chain.specs.Descriptors.{size_of, descriptor_at}

-- whether the memory has each byte of a range
unfoldable pub has_range : Memory → (at len : ℕ) → Bool
has_range memory at len =
    (len == 0) || (nat_le memory.base at && nat_le (at + len) (memory.base + length memory.bytes))

abbrev pub reading_of : Result Xfer DescFault → Result Xfer ChainFault
reading_of (Ok desc) = Ok desc
reading_of (Err desc_fault.NotValid) = Err NotValid
reading_of (Err desc_fault.BadAct) = Err BadAct

-- the descriptor at an address, or why there is none
unfoldable pub read_at : Memory → Bool → ℕ → Result Xfer ChainFault
read_at memory wide at = if has_range memory at (size_of wide) then reading_of (descriptor_at memory wide at) else Err Hole

-- what is wanted after a descriptor
unfoldable pub left_after : Memory → Xfer → ℕ → Result ℕ ChainFault
left_after memory (Transfer end int len at) left =
    if has_range memory at len then (if nat_lt left len then Err Long else Ok (left - len)) else Err Hole
left_after memory (Link to) left = Ok left
left_after memory (Nop end) left = Ok left
