-- A remainder is below its divisor, and differs from the integer by a multiple of it.
use Rattle.std.specs.Prelude.{ℕ, zero, suc, ◌+◌, ◌-◌, ◌*◌, ◌/◌, ◌%◌, ◌<◌, ◌≡◌, ℤ, pos, negsuc, neg_ℤ, ◌+ℤ◌, ◌*ℤ◌}
use Rattle.std.proofs.Common.{ap, mod-lt, div-add-mod', suc-mul, arith, lt-ltb}
use Rattle.numbers.specs.Remainders.{remainder}

-- the quotient, rounded down
abbrev pub quotient : ℤ → ℕ → ℤ
quotient (pos a) n = pos (a / n)
quotient (negsuc a) n = negsuc (a / n)

pub remainder_lt : (c : ℤ) {n : ℕ} → 0 < n → remainder c n < n
remainder_lt (pos a) {n} h = mod-lt a h
remainder_lt (negsuc a) {n} h = omega arith

-- -x for a positive x
negative : (x : ℕ) → 0 < x → neg_ℤ (pos x) ≡ negsuc (x - 1)
negative zero h = absurd (omega arith)
negative (suc x) h = ap negsuc (omega arith)

pub remainder_right : (c : ℤ) (n : ℕ) → 0 < n → quotient c n *ℤ pos n +ℤ pos (remainder c n) ≡ c
remainder_right (pos a) n h = ap pos (div-add-mod' a n)
remainder_right (negsuc a) n h =
    let r : a % n < n = mod-lt a h in
    let e : a / n * n + a % n ≡ a = div-add-mod' a n in
    let m : suc (a / n) * n ≡ a / n * n + n = suc-mul (a / n) n in
    let t : n - 1 - a % n < suc (suc (a / n) * n - 1) = omega arith in
    rw (negative (suc (a / n) * n) (omega arith), lt-ltb _ _ t) (ap negsuc (omega arith))
