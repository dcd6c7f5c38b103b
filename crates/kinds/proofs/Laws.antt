-- Laws of values over the width.
use mathlib.Core.Path.{◌≡◌, sym, ap, ap₂, ◌∙◌}
use Prim.Native.Nat.{ℕ, ◌+◌, ◌-◌, ◌<◌, ◌^◌, ◌%◌}
use native.Mathlib.Omega.{arith}
use lib.Bits.{bit_and, and_mask, mask_lt}
use lib.Dec.{leb}
use lib.Pow.{pow_mono}
use lib.Signed.{le_z}
use Rattle.numbers.specs.Remainders.{remainder}
use Rattle.kinds.specs.Widths.{width}
use Rattle.kinds.specs.Values.{taken, value}
use Rattle.kinds.specs.Laws.Widths.{width_le}
use Rattle.kinds.specs.Laws.Modulo.{remainder_sub}
use Rattle.kinds.specs.Laws.Raised.{taken_le, raised_order}

-- values are in the order of the values plus 2 ^ 32
pub raised_ordered : (kind a b x y : ℕ) → x ≡ a + (2 ^ 32 - taken kind a) → y ≡ b + (2 ^ 32 - taken kind b) → leb x y ≡ le_z (value kind a) (value kind b)
unfolding value
raised_ordered kind a b x y e f = ap₂ leb e f ∙ raised_order a b (taken kind a) (taken kind b) (taken_le kind a) (taken_le kind b)

-- the value plus 2 ^ 32, its low 32 bits
pub raised_low : (kind x r : ℕ) → r ≡ x + (2 ^ 32 - taken kind x) → bit_and r 4294967295 ≡ remainder (value kind x) (2 ^ 32)
unfolding value
raised_low kind x r e = and_mask r 32 ∙ ap (λ (n : ℕ). n % 2 ^ 32) e ∙ sym (remainder_sub (2 ^ 32) (omega arith) x (taken kind x) (taken_le kind x))

pub low_lt : (n : ℕ) → bit_and n 4294967295 < 2 ^ 32
low_lt n = mask_lt n 32

-- a number masked by 2 to the width less 1
pub wrapped : (kind s m : ℕ) → m ≡ 2 ^ width kind → bit_and s (m - 1) ≡ s % 2 ^ width kind
wrapped kind s m e = ap (λ (n : ℕ). bit_and s (n - 1)) e ∙ and_mask s (width kind)

pub wrapped_lt : (kind s m : ℕ) → m ≡ 2 ^ width kind → bit_and s (m - 1) < 2 ^ 32
wrapped_lt kind s m e = rw e (omega (arith, mask_lt s (width kind), pow_mono (width_le kind)))
