-- Signed 32-bit numbers, as naturals and as bits.
use Rattle.std.specs.Prelude.{ℕ, suc, ◌-◌, ◌^◌, Bool, false, List, eqb, get_or, ℤ, pos, negsuc, neg_ℤ, ◌-ℤ◌}
use Rattle.std.specs.Int.Signed.{le_z}
use Rattle.numbers.specs.Choice.{both}
use Rattle.kinds.specs.Widths.{s32}
use Rattle.kinds.specs.Values.{value}

-- the number at a place of a tape
abbrev pub number : List ℤ → ℕ → ℤ
number t at = get_or t at (pos 0)

-- how far a number is above 0, and how far below: one of them is 0
abbrev pub rise : ℤ → ℕ
rise (pos n) = n
rise (negsuc n) = 0

abbrev pub fall : ℤ → ℕ
fall (pos n) = 0
fall (negsuc n) = suc n

-- x is n
unfoldable pub is : ℕ → ℤ → Bool
is n (pos m) = eqb m n
is n (negsuc m) = false

-- x is low or more
unfoldable pub at_least : ℕ → ℤ → Bool
at_least low x = le_z (pos low) x

-- x is from -below to above
unfoldable pub spans : ℕ → ℕ → ℤ → Bool
spans below above x = both (le_z (neg_ℤ (pos below)) x) (le_z x (pos above))

-- up - down
unfoldable pub difference : ℕ → ℕ → ℤ
difference up down = pos up -ℤ pos down

-- 32 bits read as a signed number
abbrev pub signed_of : ℕ → ℤ
signed_of bits = value s32 bits

-- a signed number's 32 bits
abbrev pub bits_of : ℤ → ℕ
bits_of (pos n) = n
bits_of (negsuc n) = 2 ^ 32 - suc n
