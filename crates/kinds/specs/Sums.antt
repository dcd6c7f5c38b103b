-- Sums of integers, and what they are modulo m.
use Rattle.std.specs.Prelude.{ℕ, zero, suc, ℤ, pos, ◌+ℤ◌}

-- the sum of g 0 .. g (n - 1)
unfoldable pub sum_z : (ℕ → ℤ) → ℕ → ℤ
sum_z g zero = pos 0
sum_z g (suc n) = sum_z g n +ℤ g n
