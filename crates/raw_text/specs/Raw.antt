-- The one text of each operation: words parted by single spaces, and a line feed.
use Rattle.std.specs.Prelude.{ℕ, ◌^◌, ◌<◌, ◌≤◌, List, [], ◌∷◌, length, codes, decimal}
use Rattle.hex.specs.Hex.{IsBytes, encode_lower}
use Rattle.text_words.specs.Words.{line, hex_byte}
use Rattle.raw_text.specs.declared.op.RawOp.{RawOp}
use Rattle.raw_text.specs.declared.op.RawOp.TheVariants.{Poke, Fill, Peek, Write, Read, Go, Show, Discard}
use Rattle.text_words.specs.HexNumber.{hex_number}

-- the words of an operation. Addresses and values are hexadecimal numbers, lengths and sectors decimal ones, and
-- registers and bytes have two digits each
abbrev pub op_words : RawOp → List (List ℕ)
op_words (Poke address bytes) = codes "poke" ∷ hex_number address ∷ encode_lower bytes ∷ []
op_words (Fill address count value) = codes "fill" ∷ hex_number address ∷ decimal count ∷ hex_byte value ∷ []
op_words (Peek address count) = codes "peek" ∷ hex_number address ∷ decimal count ∷ []
op_words (Write reg value) = codes "w" ∷ hex_byte reg ∷ hex_number value ∷ []
op_words (Read reg) = codes "r" ∷ hex_byte reg ∷ []
op_words Go = codes "go" ∷ []
op_words (Show sector) = codes "show" ∷ decimal sector ∷ []
op_words Discard = codes "discard" ∷ []

-- the line of an operation, with its line feed
unfoldable pub op_text : RawOp → List ℕ
op_text op = line (op_words op)

-- 1 to 512 bytes
pub record ArePoked (bytes : List ℕ) : Type 0 where
  pub each : IsBytes bytes
  pub least : 1 ≤ length bytes
  pub most : length bytes ≤ 512

-- an operation's numbers and bytes are within their limits
abbrev pub IsOp : RawOp → Type 0
IsOp (Poke address bytes) = (address < 2 ^ 64) × ArePoked bytes
IsOp (Fill address count value) = (address < 2 ^ 64) × (1 ≤ count) × (count ≤ 1048576) × (value < 2 ^ 8)
IsOp (Peek address count) = (address < 2 ^ 64) × (1 ≤ count) × (count ≤ 512)
IsOp (Write reg value) = (reg < 2 ^ 8) × (value < 2 ^ 32)
IsOp (Read reg) = reg < 2 ^ 8
IsOp Go = Unit {0}
IsOp (Show sector) = sector < 2 ^ 32
IsOp Discard = Unit {0}
