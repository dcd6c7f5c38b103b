-- Tests of a signed number by how far it is below and above 0, and what is written read back.
use Rattle.std.specs.Prelude.{ℕ, zero, suc, ◌-◌, ◌≤◌, ◌<◌, min, ◌^◌, ◌≡◌, refl, Bool, true, false, cond, eqb, ltb, leb, ℤ, pos, negsuc, ◌-ℤ◌}
use Rattle.std.proofs.Common.{sym, ap, ◌∙◌, arith, ltb-true, ltb-false, le-ltb, le-leb, leb-true}
use Rattle.std.proofs.lemmas.Bool.{lt-leb}
use Rattle.std.proofs.Math.Dec.{leb-suc-suc}
use Rattle.std.proofs.Math.IntN.{sub_ℕ}
use Rattle.numbers.specs.Choice.{pick, both}
use Rattle.numbers.specs.Laws.Choice.{stop, pass, both_left, both_right, both_true}
use Rattle.kinds.specs.Widths.{s32}
use Rattle.kinds.specs.Laws.Signs.{value_lower, value_upper, width_s32}
use Rattle.signed.specs.Numbers.{rise, fall, is, at_least, spans, difference, signed_of, bits_of}

pub is_parts : (n : ℕ) (x : ℤ) → is n x ≡ both (leb (fall x) 0) (eqb (rise x) n)
unfolding is
is_parts n (pos m) = pass refl refl
is_parts n (negsuc m) = stop _ (lt-leb (suc m) 0 (omega arith))

pub least_parts : (low : ℕ) (x : ℤ) → at_least low x ≡ both (leb (fall x) 0) (leb low (rise x))
unfolding at_least
least_parts low (pos m) = pass refl refl
least_parts low (negsuc m) = stop _ (lt-leb (suc m) 0 (omega arith))

pub spans_parts : (below above : ℕ) (x : ℤ) → spans below above x ≡ both (leb (fall x) below) (leb (rise x) above)
unfolding spans both pick
spans_parts zero above (pos m) = rw (le-leb 0 m (omega arith))
spans_parts (suc b) above (pos m) = rw (le-leb 0 (suc b) (omega arith))
spans_parts zero above (negsuc m) = rw (lt-leb (suc m) 0 (omega arith))
spans_parts (suc b) above (negsuc m) = rw (leb-suc-suc m b, le-leb 0 above (omega arith))

-- a number goes one way
pub one_way : (x : ℤ) → min (rise x) (fall x) ≡ 0
one_way (pos m) = omega arith
one_way (negsuc m) = omega arith

pub spans_fall : (below above : ℕ) (x : ℤ) → spans below above x ≡ true → fall x ≤ below
spans_fall below above x e = leb-true _ _ (both_left _ _ (sym (spans_parts below above x) ∙ e))

pub spans_rise : (below above : ℕ) (x : ℤ) → spans below above x ≡ true → rise x ≤ above
spans_rise below above x e = leb-true _ _ (both_right _ _ (sym (spans_parts below above x) ∙ e))

pub least_rise : (low : ℕ) (x : ℤ) → at_least low x ≡ true → low ≤ rise x
least_rise low x e = leb-true _ _ (both_right _ _ (sym (least_parts low x) ∙ e))

pub spans_true : (below above : ℕ) (x : ℤ) → fall x ≤ below → rise x ≤ above → spans below above x ≡ true
spans_true below above x p q = spans_parts below above x ∙ both_true _ _ (le-leb _ _ p) (le-leb _ _ q)

-- ---- differences

pub minus : (a b : ℕ) → pos a -ℤ pos b ≡ sub_ℕ a b
minus a zero = rw (le-ltb a 0 (omega arith)) (ap pos (omega arith))
minus a (suc b) = refl

sub_rise : (u d : ℕ) → rise (sub_ℕ u d) ≡ u - d
sub_rise u d = by (ltb u d) refl
  where
    by : (t : Bool) → ltb u d ≡ t → rise (cond t (negsuc (d - suc u)) (pos (u - d))) ≡ u - d
    by true e = omega (arith, ltb-true u d e)
    by false e = refl

sub_fall : (u d : ℕ) → fall (sub_ℕ u d) ≡ d - u
sub_fall u d = by (ltb u d) refl
  where
    by : (t : Bool) → ltb u d ≡ t → fall (cond t (negsuc (d - suc u)) (pos (u - d))) ≡ d - u
    by true e = omega (arith, ltb-true u d e)
    by false e = omega (arith, ltb-false u d e)

pub rise_difference : (u d : ℕ) → rise (difference u d) ≡ u - d
unfolding difference
rise_difference u d = ap rise (minus u d) ∙ sub_rise u d

pub fall_difference : (u d : ℕ) → fall (difference u d) ≡ d - u
unfolding difference
fall_difference u d = ap fall (minus u d) ∙ sub_fall u d

-- ---- bits

pub lower : (v : ℕ) → v < 2 ^ 31 → signed_of v ≡ pos v
lower v h = value_lower s32 v (rw width_s32 (omega arith))

pub upper : (v : ℕ) → v < 2 ^ 32 → 2 ^ 31 ≤ v → signed_of v ≡ negsuc (2 ^ 32 - 1 - v)
upper v f h =
    let e : 2 ^ 32 - 1 - v ≡ 2 ^ 32 - suc v = omega arith in
    rw e (rw width_s32 at (value_upper s32 v refl (rw width_s32 (omega arith)) (rw width_s32 f)))

pub bits_signed : (v : ℕ) → v < 2 ^ 32 → bits_of (signed_of v) ≡ v
bits_signed v h = by (ltb v (2 ^ 31)) refl
  where
    by : (t : Bool) → ltb v (2 ^ 31) ≡ t → bits_of (signed_of v) ≡ v
    by true e = ap bits_of (lower v (ltb-true v (2 ^ 31) e))
    by false e = ap bits_of (upper v h (ltb-false v (2 ^ 31) e)) ∙ omega (arith, ltb-false v (2 ^ 31) e)
