-- How a reduce combines elements.
use Rattle.std.specs.Prelude.{ℕ, zero, suc, ◌+◌, ◌%◌, ◌^◌}
use Rattle.std.specs.Int.Bits.{bit_and, bit_or, bit_xor}
use Rattle.std.specs.Int.Signed.{le_z}
use Rattle.numbers.specs.Choice.{pick}
use Rattle.kinds.specs.Widths.{width}
use Rattle.kinds.specs.Values.{value}
use Rattle.sheet.specs.declared.Combine.{Combine}
use Rattle.sheet.specs.declared.Combine.TheVariants.{Add, Min, Max, And, Or, Xor}

-- combine 0 add wrapping at the kind's width, 1 min, 2 max (by sign), 3 and, 4 or, 5 xor
abbrev pub combined : ℕ → Combine → ℕ → ℕ → ℕ
combined kind Add a b = (a + b) % 2 ^ width kind
combined kind Min a b = pick (le_z (value kind a) (value kind b)) a b
combined kind Max a b = pick (le_z (value kind a) (value kind b)) b a
combined kind And a b = bit_and a b
combined kind Or a b = bit_or a b
combined kind Xor a b = bit_xor a b

-- g 0 combined with g 1, that with g 2, and so on to g later
unfoldable pub folded : ℕ → Combine → (ℕ → ℕ) → ℕ → ℕ
folded kind combine g zero = g 0
folded kind combine g (suc n) = combined kind combine (folded kind combine g n) (g (suc n))
