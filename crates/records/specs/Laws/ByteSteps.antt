-- A byte step as an integer, and as how far it goes up and down.
use Rattle.std.specs.Prelude.{ℕ, suc, ◌+◌, ◌*◌, ◌-◌, min, ◌≡◌, ℤ, pos, negsuc}
use Rattle.std.proofs.Common.{sym, ap, ap₂, ◌∙◌, arith}
use Rattle.std.proofs.Math.Nat.{mul-sub}
use Rattle.std.proofs.Math.IntN.{+ℤ_idl, +ℤ_idr}
use Rattle.signed.specs.Numbers.{rise, fall, difference}
use Rattle.signed.specs.Laws.Numbers.{rise_difference, fall_difference}
use Rattle.records.specs.Records.{even_byte}

pub difference_parts : (s : ℤ) → difference (rise s) (fall s) ≡ s
unfolding difference
difference_parts (pos n) = +ℤ_idr (pos n)
difference_parts (negsuc n) = +ℤ_idl (negsuc n)

pub same_parts : (s t : ℤ) → rise s ≡ rise t → fall s ≡ fall t → s ≡ t
same_parts s t p q = sym (difference_parts s) ∙ ap₂ difference p q ∙ difference_parts t

-- ---- byte+i*step

rise_at : (b i : ℕ) (s : ℤ) → rise (even_byte b s i) ≡ b + i * rise s - i * fall s
unfolding even_byte difference
rise_at b i (pos u) = omega arith
rise_at b i (negsuc d) = rise_difference b (i * suc d) ∙ omega arith

fall_at : (b i : ℕ) (s : ℤ) → fall (even_byte b s i) ≡ i * fall s - (b + i * rise s)
unfolding even_byte difference
fall_at b i (pos u) = omega arith
fall_at b i (negsuc d) = fall_difference b (i * suc d) ∙ omega arith

-- where it is x
pub at_parts : (x b i : ℕ) (s : ℤ) → pos x ≡ even_byte b s i → x + i * fall s ≡ b + i * rise s
at_parts x b i s e = omega (arith, ap rise e ∙ rise_at b i s, ap fall e ∙ fall_at b i s)

-- the same with a step of up - down
module _ (b u d i : ℕ) where
  pub rise_step : rise (even_byte b (difference u d) i) ≡ b + i * u - i * d
  rise_step =
      rise_at b i (difference u d)
      ∙ rw (rise_difference u d, fall_difference u d) (omega (arith, mul-sub i u d, mul-sub i d u))

  pub fall_step : fall (even_byte b (difference u d) i) ≡ i * d - (b + i * u)
  fall_step =
      fall_at b i (difference u d)
      ∙ rw (rise_difference u d, fall_difference u d) (omega (arith, mul-sub i u d, mul-sub i d u))

  pub at_step_lem : (x : ℕ) → x + i * d ≡ b + i * u → pos x ≡ even_byte b (difference u d) i
  at_step_lem x e = same_parts (pos x) (even_byte b (difference u d) i) (omega (arith, rise_step)) (omega (arith, fall_step))

  pub step_at_lem : (x : ℕ) → pos x ≡ even_byte b (difference u d) i → x + i * d ≡ b + i * u
  step_at_lem x e = omega (arith, ap rise e ∙ rise_step, ap fall e ∙ fall_step)

-- of a step that goes one way the integer tells both
module _ (u d : ℕ) (way : min u d ≡ 0) where
  pub rise_back : rise (difference u d) ≡ u
  rise_back = rise_difference u d ∙ omega arith

  pub fall_back : fall (difference u d) ≡ d
  fall_back = fall_difference u d ∙ omega arith
