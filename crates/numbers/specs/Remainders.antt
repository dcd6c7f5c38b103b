-- A remainder takes the divisor's sign: it is the number below n that differs from an integer by a multiple of n, so that -1 leaves n - 1.
use Rattle.std.specs.Prelude.{ℕ, ◌-◌, ◌%◌, ℤ, pos, negsuc}

abbrev pub remainder : ℤ → ℕ → ℕ
remainder (pos a) n = a % n
remainder (negsuc a) n = n - 1 - a % n
