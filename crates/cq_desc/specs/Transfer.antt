-- The transfer descriptor: JESD84-B51, annex B; the macros CQHCI_DAT_LENGTH, CQHCI_DAT_ADDR_LO and CQHCI_DAT_ADDR_HI of the Linux
-- driver's cqhci.h. In the 64-bit form it is the low word alone.
use Rattle.std.specs.Prelude.{◌≡◌, ◌<◌, ◌≤◌, ℕ, ◌+◌, ◌*◌, ◌/◌, ◌%◌, ◌^◌, List, [], ◌∷◌, ◌==◌, ◌||◌, Bool, false, if◌then◌else◌, Result}
use Rattle.cq_words.specs.declared.table.FieldValue.{FieldValue}
use Rattle.cq_words.specs.Table.{number_in, is_set}
use Rattle.cq_desc.specs.Fields.{VALID, END, INT, ACT, ACT_NOP, ACT_TRANSFER, ACT_LINK, DATA_LENGTH, DATA_ADDRESS, DATA_ADDRESS_HIGH, LONGEST_PIECE}
use Rattle.cq_desc.specs.declared.fault.DescFault.{DescFault}
use Rattle.cq_desc.specs.declared.xfer.Xfer.{Xfer}
use Rattle.cq_desc.specs.declared.xfer.Xfer.TheVariants.{Piece, Link, Nop}
use Rattle.cq_desc.specs.Descriptor.{at, bit, judged}

-- what stands in the low word: a length of LONGEST_PIECE as 0, and the address's low half
abbrev pub xfer_table : Xfer → List FieldValue
xfer_table (Piece end int len address) =
    at VALID 1 ∷ at ACT ACT_TRANSFER ∷ at END (bit end) ∷ at INT (bit int) ∷ at DATA_LENGTH (len % LONGEST_PIECE)
    ∷ at DATA_ADDRESS (address % 2 ^ 32) ∷ []
xfer_table (Link address) = at VALID 1 ∷ at ACT ACT_LINK ∷ at DATA_ADDRESS (address % 2 ^ 32) ∷ []
xfer_table (Nop end) = at VALID 1 ∷ at ACT ACT_NOP ∷ at END (bit end) ∷ []

-- what stands in the high word of the 128-bit form: the address's high half
abbrev pub high_table : Xfer → List FieldValue
high_table (Piece end int len address) = at DATA_ADDRESS_HIGH (address / 2 ^ 32) ∷ []
high_table (Link address) = at DATA_ADDRESS_HIGH (address / 2 ^ 32) ∷ []
high_table (Nop end) = []

-- an address of 32 bits in the 64-bit form
abbrev pub IsAddress : Bool → ℕ → Type 0
IsAddress wide address = wide ≡ false → address < 2 ^ 32

-- the values fit their fields
abbrev pub IsXferInRange : Bool → Xfer → Type 0
IsXferInRange wide (Piece end int len address) = (1 ≤ len) × (len ≤ LONGEST_PIECE) × IsAddress wide address
IsXferInRange wide (Link address) = IsAddress wide address
IsXferInRange wide (Nop end) = Unit {0}

abbrev pub address_of : ℕ → ℕ → Bool → ℕ
address_of low high wide = number_in low DATA_ADDRESS + (if wide then number_in high DATA_ADDRESS_HIGH * 2 ^ 32 else 0)

abbrev pub length_of : ℕ → ℕ
length_of low = if number_in low DATA_LENGTH == 0 then LONGEST_PIECE else number_in low DATA_LENGTH

abbrev pub is_xfer : ℕ → Bool
is_xfer low = (number_in low ACT == ACT_TRANSFER) || (number_in low ACT == ACT_LINK) || (number_in low ACT == ACT_NOP)

-- the descriptor that the words' fields name
abbrev pub xfer_of : ℕ → ℕ → Xfer
xfer_of low address =
    if number_in low ACT == ACT_TRANSFER then Piece (is_set low END) (is_set low INT) (length_of low) address
    else (if number_in low ACT == ACT_LINK then Link address else Nop (is_set low END))

-- how the words read
unfoldable pub xfer_read : ℕ → ℕ → Bool → Result Xfer DescFault
xfer_read low high wide = judged low (is_xfer low) (xfer_of low (address_of low high wide))
