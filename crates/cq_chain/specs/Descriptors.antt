-- The descriptors of a chain, each by itself, and the list of those that are reached from an address: JESD84-B51, annex B;
-- cqhci_prep_tran_desc of the Linux driver's cqhci-core.c writes such a chain.
use Rattle.std.specs.Prelude.{◌≡◌, ◌≤◌, ℕ, ◌+◌, Bool, false, List, [], ◌∷◌, if◌then◌else◌, All, sum_by, Result}
use Rattle.byteorder.specs.Endian.{little_number}
use Rattle.host_mem.specs.Memory.{Memory, HasRange, bytes_of}
use Rattle.cq_desc.specs.declared.fault.DescFault.{DescFault}
use Rattle.cq_desc.specs.declared.xfer.Xfer.{Xfer}
use Rattle.cq_desc.specs.declared.xfer.Xfer.TheVariants.{Piece as Transfer, Link, Nop}
use Rattle.cq_desc.specs.Transfer.{xfer_read}
use Rattle.cq_chain.specs.declared.pieces.Piece.{Piece}

-- how many bytes a descriptor has
abbrev pub size_of : Bool → ℕ
size_of wide = if wide then 16 else 8

unfoldable pub word_at : Memory → ℕ → ℕ
word_at memory at = little_number 8 (bytes_of memory at 8)

-- how the bytes at an address read: in the 64-bit form there is no high word
unfoldable pub descriptor_at : Memory → Bool → ℕ → Result Xfer DescFault
descriptor_at memory wide at = xfer_read (word_at memory at) (if wide then word_at memory (at + 8) else 0) wide

-- all bytes of the descriptor at the address are in the memory, and this is how they read
pub record Reads (memory : Memory) (wide : Bool) (at : ℕ) (reading : Result Xfer DescFault) : Type 0 where
  pub inside : HasRange memory at (size_of wide)
  pub value : descriptor_at memory wide at ≡ reading

-- the transfers of a list, in order
abbrev pub pieces_of : List Xfer → List Piece
pieces_of [] = []
pieces_of (Transfer end int len at ∷ descs) = record { at = at; len = len } ∷ pieces_of descs
pieces_of (Link to ∷ descs) = pieces_of descs
pieces_of (Nop end ∷ descs) = pieces_of descs

-- a transfer or a nop with the end bit ends the chain; a link's end bit means nothing
abbrev pub ends : Xfer → Bool
ends (Transfer end int len at) = end
ends (Link to) = false
ends (Nop end) = end

-- where the chain goes on after a descriptor at an address
abbrev pub next : Bool → ℕ → Xfer → ℕ
next wide at (Transfer end int len start) = at + size_of wide
next wide at (Link to) = to
next wide at (Nop end) = at + size_of wide

abbrev pub bytes_in : List Piece → ℕ
bytes_in pieces = sum_by (λ piece. piece.len) pieces

abbrev pub AreInside : Memory → List Piece → Type 0
AreInside memory pieces = All (λ piece. HasRange memory piece.at piece.len) pieces

abbrev pub AreNotEmpty : List Piece → Type 0
AreNotEmpty pieces = All (λ piece. 1 ≤ piece.len) pieces
