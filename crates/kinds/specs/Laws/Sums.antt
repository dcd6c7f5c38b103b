-- Laws of sums: none, one more, alike, and modulo.
use Rattle.std.specs.Prelude.{◌≡◌, refl, ℕ, zero, suc, ◌+◌, ◌*◌, ◌<◌, ◌≤◌, ◌^◌, ℤ, pos, ◌+ℤ◌, ◌*ℤ◌}
use Rattle.std.proofs.Common.{sym, ◌∙◌, mul-le-mul, add-one, arith}
use Rattle.numbers.specs.Remainders.{remainder}
use Rattle.kinds.specs.Laws.Modulo.{dot_more}
use Rattle.kinds.specs.Sums.{sum_z}

pub sum_none : (g : ℕ → ℤ) → sum_z g 0 ≡ pos 0
unfolding sum_z
sum_none g = refl

pub sum_next : (g : ℕ → ℤ) (n : ℕ) → sum_z g n +ℤ g n ≡ sum_z g (n + 1)
unfolding sum_z
sum_next g n = rw add-one

-- only the factors modulo m count
pub products_same : (m : ℕ) → 0 < m → (w g h : ℕ → ℤ) (n : ℕ) → ((k : ℕ) → k < n → remainder (g k) m ≡ remainder (h k) m)
    → remainder (sum_z (λ (k : ℕ). w k *ℤ g k) n) m ≡ remainder (sum_z (λ (k : ℕ). w k *ℤ h k) n) m
unfolding sum_z
products_same m some w g h zero e = refl
products_same m some w g h (suc n) e =
    sym (dot_more m some _ _ _ (sum_z (λ (k : ℕ). w k *ℤ g k) n) (w n) (g n) refl refl refl)
    ∙ dot_more m some _ _ _ (sum_z (λ (k : ℕ). w k *ℤ h k) n) (w n) (h n) (products_same m some w g h n (λ k l. e k (omega arith))) refl (e n (omega arith))

-- a product of two numbers below 2^32 and a third fit 64 bits
pub sum_fits : (s x y : ℕ) → s < 2 ^ 32 → x < 2 ^ 32 → y < 2 ^ 32 → s + x * y < 2 ^ 64
sum_fits s x y a b e =
    let h : x * y ≤ 4294967295 * 4294967295 = mul-le-mul {n₂ = 4294967295} {m₂ = 4294967295} (omega arith) (omega arith) in
    omega arith

pub product_fits : (x y : ℕ) → x < 2 ^ 32 → y < 2 ^ 32 → x * y < 2 ^ 64
product_fits x y b e = omega (arith, sum_fits 0 x y (omega arith) b e)
