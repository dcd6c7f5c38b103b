-- Laws of packed bits: their size, one of them, their count of ones, and a word of 32 as four bytes.
use Prim.Native.Nat.{ℕ, zero, suc, ◌+◌, ◌-◌, ◌*◌, ◌/◌, ◌%◌, ◌^◌, ◌<◌, ◌≤◌}
use Rattle.std.specs.Prelude.{◌≡◌, refl, [], ◌∷◌, ◌++◌}
use Rattle.std.proofs.Math.Path.{ap₂}
use Rattle.std.proofs.Common.{◌∙◌, not-suc-le-zero, lt_of_lt_of_le, div-one, pow-suc, mul_assoc, add-one, pow_mono}
use Rattle.std.proofs.Math.Nat.{div-div-eq-div-mul, mul_comm}
use native.Mathlib.Omega.{arith}
use Rattle.std.proofs.Math.Pow.{low, high}
use Rattle.std.specs.Int.Count.{ones, ones_step}
use Rattle.numbers.specs.Little.{u16_bytes, u32_bytes}
use Rattle.masks.specs.Masks.{packed, sum_of}

-- 0 and 1 alone
abbrev pub Bits : (ℕ → ℕ) → Type 0
Bits bit = (e : ℕ) → bit e ≤ 1

pub sum_none : (f : ℕ → ℕ) → sum_of f 0 ≡ 0
unfolding sum_of
sum_none f = refl

pub sum_more : (f : ℕ → ℕ) (n : ℕ) → sum_of f (n + 1) ≡ sum_of f n + f n
unfolding sum_of
sum_more f n = rw add-one

pub packed_none : (bit : ℕ → ℕ) (p : ℕ) → packed bit p 0 ≡ 0
unfolding packed
packed_none bit p = refl

-- no digit from p on
pub packed_zeros : (bit : ℕ → ℕ) (p n : ℕ) → ((e : ℕ) → p ≤ e → bit e ≡ 0) → packed bit p n ≡ 0
unfolding packed
packed_zeros bit p zero h = refl
packed_zeros bit p (suc n) h = rw (h p (omega arith), packed_zeros bit (p + 1) n (λ e l. h e (omega arith))) (omega arith)

-- one more below, as the loop over a word of 32 takes it
pub packed_next : (bit : ℕ → ℕ) (first left : ℕ) → 0 < left → left ≤ 32 → {word r : ℕ} → word ≡ packed bit (first + left) (32 - left)
    → r ≡ bit (first + (left - 1)) → word * 2 + r ≡ packed bit (first + (left - 1)) (32 - (left - 1))
unfolding packed
packed_next bit first left some h p q =
    let e : 32 - (left - 1) ≡ suc (32 - left) = omega arith in
    let f : first + (left - 1) + 1 ≡ first + left = omega arith in
    rw (p, q, e, f) (omega arith)

-- the first m, and the others above them
packed_split : (bit : ℕ → ℕ) (p m n : ℕ) → packed bit p (m + n) ≡ packed bit (p + m) n * 2 ^ m + packed bit p m
unfolding packed
packed_split bit p zero n =
    let e : 0 + n ≡ n = omega arith in
    let f : p + 0 ≡ p = omega arith in
    rw (e, f) (omega arith)
packed_split bit p (suc m) n =
    let e : suc m + n ≡ suc (m + n) = omega arith in
    let f : p + suc m ≡ p + 1 + m = omega arith in
    rw (e, f, packed_split bit (p + 1) m n, pow-suc 2 m) (omega (arith, mul_assoc (packed bit (p + 1 + m) n) (2 ^ m) 2))

module _ (bit : ℕ → ℕ) (b : Bits bit) where
  pub packed_lt : (p n : ℕ) → packed bit p n < 2 ^ n
  unfolding packed
  packed_lt p zero = omega arith
  packed_lt p (suc n) = rw (pow-suc 2 n) (omega (arith, b p, packed_lt (p + 1) n))

  -- a word that is not full yet has room for one more
  pub packed_room : (p n : ℕ) → n ≤ 31 → packed bit p n < 2 ^ 31
  packed_room p n h = lt_of_lt_of_le (packed_lt p n) (pow_mono h)

  -- the ones of packed bits are counted on
  pub packed_ones : (p n : ℕ) → sum_of bit p + ones (packed bit p n) ≡ sum_of bit (p + n)
  unfolding packed ones
  packed_ones p zero = let e : p + 0 ≡ p = omega arith in rw e (omega arith)
  packed_ones p (suc n) =
      let w = packed bit (p + 1) n in
      let first : (bit p + 2 * w) % 2 ≡ bit p = omega (arith, b p) in
      let rest : (bit p + 2 * w) / 2 ≡ w = omega (arith, b p) in
      let step : ones (bit p + 2 * w) ≡ bit p + ones w = ones_step (bit p + 2 * w) ∙ ap₂ (λ (x y : ℕ). x + ones y) first rest in
      let e : p + suc n ≡ p + 1 + n = omega arith in
      rw (step, e) (omega (arith, packed_ones (p + 1) n, sum_more bit p))

  -- one of them
  pub packed_bit : (p n k : ℕ) → k < n → packed bit p n / 2 ^ k % 2 ≡ bit (p + k)
  unfolding packed
  packed_bit p zero k h = absurd (not-suc-le-zero h)
  packed_bit p (suc n) zero h =
      let e : p + 0 ≡ p = omega arith in
      rw (e, div-one) (omega (arith, b p))
  packed_bit p (suc n) (suc k) h =
      let w = packed bit (p + 1) n in
      let rest : (bit p + 2 * w) / 2 ≡ w = omega (arith, b p) in
      let e : p + suc k ≡ p + 1 + k = omega arith in
      rw (pow-suc 2 k, mul_comm (2 ^ k) 2, ← div-div-eq-div-mul (bit p + 2 * w) 2 (2 ^ k), rest, e) (packed_bit (p + 1) n k (omega arith))

  packed_low : (p m n : ℕ) → packed bit p (m + n) % 2 ^ m ≡ packed bit p m
  packed_low p m n = rw (packed_split bit p m n) (low (packed bit (p + m) n) m (packed_lt p m))

  packed_high : (p m n : ℕ) → packed bit p (m + n) / 2 ^ m ≡ packed bit (p + m) n
  packed_high p m n = rw (packed_split bit p m n) (high (packed bit (p + m) n) m (packed_lt p m))

  half_bytes : (p : ℕ) {x : ℕ} → x ≡ packed bit p 16 → u16_bytes x ≡ packed bit p 8 ∷ packed bit (p + 8) 8 ∷ []
  half_bytes p e = rw (e, packed_low p 8 8, packed_high p 8 8)

  -- the little-endian bytes of a word
  pub word_bytes : (p : ℕ) → u32_bytes (packed bit p 32) ≡ packed bit p 8 ∷ packed bit (p + 8) 8 ∷ packed bit (p + 16) 8 ∷ packed bit (p + 16 + 8) 8 ∷ []
  word_bytes p = ap₂ ◌++◌ (half_bytes p (packed_low p 16 16)) (half_bytes (p + 16) (packed_high p 16 16))
