-- Numbers in hexadecimal.
use Rattle.std.specs.Prelude.{◌≡◌, ℕ, ◌<◌, ◌⊎◌, false, List, length, slice_index}
use Rattle.std.specs.Fmt.{digits}
use Rattle.std.specs.Int.{IsInRange}

-- a number's lower case digits, the highest first, with no leading zero but in `0` itself
abbrev pub hex_number : ℕ → List ℕ
hex_number number = digits 16 false number

-- one of `0` to `9` and `a` to `f`
abbrev pub IsLowerDigit : ℕ → Type 0
IsLowerDigit digit = IsInRange 48 57 digit ⊎ IsInRange 97 102 digit

-- a zero stands before other digits
abbrev pub HasLeadingZero : List ℕ → Type 0
HasLeadingZero word = (1 < length word) × (slice_index word 0 ≡ 48)
