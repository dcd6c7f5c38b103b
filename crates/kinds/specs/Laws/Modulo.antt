-- Laws of an integer modulo m: it goes by sums and products.
use Rattle.std.specs.Prelude.{◌≡◌, refl, Bool, true, false, cond, ℕ, zero, suc, ◌+◌, ◌-◌, ◌*◌, ◌<◌, ◌≤◌, ◌%◌, ◌/◌, ltb, ℤ, pos, negsuc, ◌+ℤ◌, ◌*ℤ◌}
use Rattle.std.proofs.Common.{sym, ap, ap₂, ◌∙◌, subst, mod-lt, mod-eq_of_lt, add-mul, mul_assoc, mul-le-mul_right, one-mul, zero-mul, add-one, arith, ltb-true, ltb-false}
use Rattle.std.proofs.Math.Nat.{mod_self, suc-mod, mod-add-mod, add-mod-mod, add-mod_right, add-mul-mod_self_left, mod-add-div, zero-mod}
use Rattle.std.proofs.Math.Decide.{dec_lt}
use Rattle.std.proofs.Math.IntN.{suc_ℤ, sub_ℕ, +ℤ-suc_ℤ, +ℤ_idr, -ℤ-+ℤ_cancel, suc_ℤ-*ℤ, zero-*ℤ}
use Rattle.numbers.specs.Remainders.{remainder}
use Rattle.numbers.specs.Laws.Remainders.{remainder_lt}

module _ (m : ℕ) (some : 0 < m) where
  remainder_mod : (z : ℤ) → remainder z m % m ≡ remainder z m
  remainder_mod z = mod-eq_of_lt (remainder_lt z some)

  down : (n : ℕ) → Dec (n % m + 1 < m) → (m - 1) - n % m ≡ ((m - 1) - suc n % m + 1) % m
  down n (yes l) =
      let e : suc n % m ≡ n % m + 1 = suc-mod n m ∙ mod-eq_of_lt (omega arith) ∙ sym (add-one (n % m)) in
      let f : (m - 1) - suc n % m + 1 ≡ (m - 1) - n % m = omega arith in
      sym (ap (λ (x : ℕ). x % m) f ∙ mod-eq_of_lt (omega arith))
  down n (no l) =
      let r : n % m < m = mod-lt n some in
      let h : suc (n % m) ≡ m = omega arith in
      let e : suc n % m ≡ 0 = suc-mod n m ∙ ap (λ (x : ℕ). x % m) h ∙ mod_self m in
      let f : (m - 1) - suc n % m + 1 ≡ m = omega arith in
      let z : (m - 1) - n % m ≡ 0 = omega arith in
      z ∙ sym (ap (λ (x : ℕ). x % m) f ∙ mod_self m)

  remainder_suc : (z : ℤ) → remainder (suc_ℤ z) m ≡ (remainder z m + 1) % m
  remainder_suc (pos n) = suc-mod n m ∙ ap (λ (x : ℕ). x % m) (sym (add-one (n % m)))
  remainder_suc (negsuc zero) =
      let e : (m - 1) - 0 % m + 1 ≡ m = omega (arith, zero-mod m) in
      zero-mod m ∙ sym (ap (λ (x : ℕ). x % m) e ∙ mod_self m)
  remainder_suc (negsuc (suc n)) = down n (dec_lt (n % m + 1) m)

  -- z + n, for a natural n
  remainder_pos : (z : ℤ) (n : ℕ) → remainder (z +ℤ pos n) m ≡ (remainder z m + n) % m
  remainder_pos z zero = ap (λ (x : ℤ). remainder x m) (+ℤ_idr z) ∙ sym (ap (λ (x : ℕ). x % m) (omega arith) ∙ remainder_mod z)
  remainder_pos z (suc n) =
      ap (λ (x : ℤ). remainder x m) (+ℤ-suc_ℤ z (pos n))
      ∙ remainder_suc (z +ℤ pos n)
      ∙ ap (λ (x : ℕ). (x + 1) % m) (remainder_pos z n)
      ∙ mod-add-mod (remainder z m + n) m 1
      ∙ ap (λ (x : ℕ). x % m) (omega arith)

  -- what is added to both sides goes
  cancel : (u v b : ℕ) → (u + b) % m ≡ (v + b) % m → u % m ≡ v % m
  cancel u v b e = sym (back u) ∙ ap (λ (x : ℕ). (x + (m * b - b)) % m) e ∙ back v
    where
      le : b ≤ m * b
      le = subst (λ (x : ℕ). x ≤ m * b) (one-mul b) (mul-le-mul_right b some)

      back : (w : ℕ) → ((w + b) % m + (m * b - b)) % m ≡ w % m
      back w =
          mod-add-mod (w + b) m (m * b - b)
          ∙ ap (λ (x : ℕ). x % m) (let h : b ≤ m * b = le in omega arith)
          ∙ add-mul-mod_self_left w m b

  pub remainder_sum : (z y : ℤ) → remainder (z +ℤ y) m ≡ (remainder z m + remainder y m) % m
  remainder_sum z (pos n) = remainder_pos z n ∙ sym (add-mod-mod (remainder z m) n m)
  remainder_sum z (negsuc n) =
      let u : ℕ = remainder (z +ℤ negsuc n) m in
      let v : ℕ = remainder z m + ((m - 1) - n % m) in
      let r : n % m < m = mod-lt n some in
      let left : (u + suc n) % m ≡ remainder z m = sym (remainder_pos (z +ℤ negsuc n) (suc n)) ∙ ap (λ (x : ℤ). remainder x m) (-ℤ-+ℤ_cancel z (pos (suc n))) in
      let whole : v + suc n ≡ (remainder z m + m * (n / m)) + m = omega (arith, mod-add-div n m) in
      let right : (v + suc n) % m ≡ remainder z m =
      ap (λ (x : ℕ). x % m) whole ∙ add-mod_right (remainder z m + m * (n / m)) m ∙ add-mul-mod_self_left (remainder z m) m (n / m) ∙ remainder_mod z in
      sym (remainder_mod (z +ℤ negsuc n)) ∙ cancel u v (suc n) (left ∙ sym right)

  mod_mul : (a b : ℕ) → (a % m * b) % m ≡ (a * b) % m
  mod_mul a b =
      sym
      (ap (λ (n : ℕ). n * b % m) (sym (mod-add-div a m))
      ∙ ap (λ (n : ℕ). n % m) (add-mul (a % m) (m * (a / m)) b ∙ ap (λ (x : ℕ). a % m * b + x) (mul_assoc m (a / m) b))
      ∙ add-mul-mod_self_left (a % m * b) m (a / m * b))

  abbrev Times : ℤ → ℤ → Type 0
  Times x y = remainder (x *ℤ y) m ≡ (remainder x m * remainder y m) % m

  one_more_l : (x y : ℤ) → remainder (suc_ℤ x *ℤ y) m ≡ (remainder (x *ℤ y) m + remainder y m) % m
  one_more_l x y = ap (λ (z : ℤ). remainder z m) (suc_ℤ-*ℤ x y) ∙ remainder_sum (x *ℤ y) y

  one_more_r : (x y : ℤ) → (remainder (suc_ℤ x) m * remainder y m) % m ≡ (remainder x m * remainder y m + remainder y m) % m
  one_more_r x y =
      ap (λ (n : ℕ). n * remainder y m % m) (remainder_suc x)
      ∙ mod_mul (remainder x m + 1) (remainder y m)
      ∙ ap (λ (n : ℕ). n % m) (add-mul (remainder x m) 1 (remainder y m) ∙ ap (λ (n : ℕ). remainder x m * remainder y m + n) (one-mul (remainder y m)))

  up : (x y : ℤ) → Times x y → Times (suc_ℤ x) y
  up x y h = one_more_l x y ∙ ap (λ (n : ℕ). (n + remainder y m) % m) h ∙ mod-add-mod (remainder x m * remainder y m) m (remainder y m) ∙ sym (one_more_r x y)

  dn : (x y : ℤ) → Times (suc_ℤ x) y → Times x y
  dn x y h =
      sym (remainder_mod (x *ℤ y))
      ∙ cancel (remainder (x *ℤ y) m) (remainder x m * remainder y m) (remainder y m) (sym (one_more_l x y) ∙ h ∙ one_more_r x y)

  times_zero : (y : ℤ) → Times (pos zero) y
  times_zero y =
      ap (λ (z : ℤ). remainder z m) (zero-*ℤ y) ∙ sym (ap (λ (n : ℕ). n * remainder y m % m) (zero-mod m) ∙ ap (λ (n : ℕ). n % m) (zero-mul (remainder y m)))

  times_pos : (n : ℕ) (y : ℤ) → Times (pos n) y
  times_pos zero y = times_zero y
  times_pos (suc n) y = up (pos n) y (times_pos n y)

  times_neg : (n : ℕ) (y : ℤ) → Times (negsuc n) y
  times_neg zero y = dn (negsuc zero) y (times_zero y)
  times_neg (suc n) y = dn (negsuc (suc n)) y (times_neg n y)

  pub remainder_mul : (x y : ℤ) → remainder (x *ℤ y) m ≡ (remainder x m * remainder y m) % m
  remainder_mul (pos n) y = times_pos n y
  remainder_mul (negsuc n) y = times_neg n y

  -- a sum and a product added to it
  pub dot_more : (s x y : ℕ) (S A B : ℤ) → s ≡ remainder S m → x ≡ remainder A m → y ≡ remainder B m → (s + x * y) % m ≡ remainder (S +ℤ A *ℤ B) m
  dot_more s x y S A B e f g =
      ap₂ (λ (p q : ℕ). (p + q) % m) e (ap₂ ◌*◌ f g)
      ∙ sym (add-mod-mod (remainder S m) (remainder A m * remainder B m) m)
      ∙ sym (ap (λ (q : ℕ). (remainder S m + q) % m) (remainder_mul A B))
      ∙ sym (remainder_sum S (A *ℤ B))

  pub sum_more : (s x : ℕ) (S A : ℤ) → s ≡ remainder S m → x ≡ remainder A m → (s + x) % m ≡ remainder (S +ℤ A) m
  sum_more s x S A e f = ap₂ (λ (p q : ℕ). (p + q) % m) e f ∙ sym (remainder_sum S A)

  -- x less p, with p at most m
  pub remainder_sub : (x p : ℕ) → p ≤ m → remainder (sub_ℕ x p) m ≡ (x + (m - p)) % m
  remainder_sub x p l = go (ltb x p) refl
    where
      go : (s : Bool) → ltb x p ≡ s → remainder (cond s (negsuc (p - suc x)) (pos (x - p))) m ≡ (x + (m - p)) % m
      go true e =
          let h : x < p = ltb-true x p e in
          ap (λ (n : ℕ). (m - 1) - n) (mod-eq_of_lt (omega arith)) ∙ sym (mod-eq_of_lt (omega arith) ∙ omega arith)
      go false e =
          let h : p ≤ x = ltb-false x p e in
          sym (ap (λ (n : ℕ). n % m) (omega arith) ∙ add-mod_right (x - p) m)
