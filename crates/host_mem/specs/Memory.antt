-- The host's memory: a byte at each address from a base on. It stands for the system memory that JESD84-B51, annex B, lets the
-- engine read and write by the addresses in descriptors.
use Rattle.std.specs.Prelude.{◌<◌, ◌≤◌, ℕ, ◌+◌, ◌-◌, List, ◌++◌, length, take, drop, slice_index, slice_set}

pub record Memory : Type 0 where
  pub base : ℕ
  pub bytes : List ℕ

-- there is a byte at the address
abbrev pub HasByte : Memory → ℕ → Type 0
HasByte memory address = (memory.base ≤ address) × (address < memory.base + length memory.bytes)

-- there is a byte at each of the `len` addresses from `at` on
abbrev pub HasRange : Memory → (at len : ℕ) → Type 0
HasRange memory at len = (k : ℕ) → k < len → HasByte memory (at + k)

abbrev pub byte_of : Memory → ℕ → ℕ
byte_of memory address = slice_index memory.bytes (address - memory.base)

-- the bytes of a range
unfoldable pub bytes_of : Memory → (at len : ℕ) → List ℕ
bytes_of memory at len = take len (drop (at - memory.base) memory.bytes)

-- the memory with other bytes from an address on
unfoldable pub with_bytes : Memory → ℕ → List ℕ → Memory
with_bytes memory at bytes =
    let place = at - memory.base in
    record memory { bytes = take place memory.bytes ++ (bytes ++ drop (place + length bytes) memory.bytes) }

abbrev pub with_byte : Memory → ℕ → ℕ → Memory
with_byte memory address byte = record memory { bytes = slice_set memory.bytes (address - memory.base) byte }
