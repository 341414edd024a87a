-- A linear congruential generator: its numbers, and the draws from them.
use Rattle.std.specs.Prelude.{ℕ, zero, suc, ◌+◌, ◌*◌, ◌/◌, ◌%◌, ◌^◌}

-- the number after another
abbrev pub moved : ℕ → ℕ
moved x = (1664525 * x + 1013904223) % 2 ^ 32

-- the number after n in so many moves
abbrev pub number : ℕ → ℕ → ℕ
number n zero = n
number n (suc k) = moved (number n k)

-- draw k, counted from 0: the upper half of the number after one move more
abbrev pub draw : ℕ → ℕ → ℕ
draw n k = moved (number n k) / 65536
