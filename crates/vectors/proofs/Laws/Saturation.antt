-- Laws of saturation, once over the width: what it gives is in range, a value in range stays, one outside becomes the nearest, and what it is modulo 2^32.
use Rattle.std.specs.Prelude.{◌≡◌, Bool, true, false, ℕ, ◌+◌, ◌-◌, ◌*◌, ◌/◌, ◌%◌, ◌^◌, ◌<◌, ◌≤◌, min, max, leb, ℤ, pos, negsuc}
use Rattle.std.proofs.Common.{sym, ◌∙◌, true≢false, zero-le, pow_pos, pow_mono}
use native.Mathlib.Omega.{arith}
use Rattle.std.proofs.Math.IntN.{sub_ℕ}
use Rattle.std.specs.Int.Signed.{le_z}
use borrow.Author.Tests.{lt-leb, le-leb, le-ltb, leb-true, leb-false}
use Rattle.numbers.specs.Choice.{pick, both}
use Rattle.numbers.specs.Laws.Choice.{pick_case, by_test, by_order}
use Rattle.numbers.specs.Remainders.{remainder}
use Rattle.kinds.specs.Widths.{width}
use Rattle.kinds.specs.Values.{signed, negative, taken, value}
use Rattle.kinds.specs.Laws.Widths.{width_le}
use Rattle.kinds.specs.Laws.Modulo.{remainder_sub}
use Rattle.kinds.specs.Laws.Raised.{taken_le, sub_order, raised_order}
use Rattle.vectors.specs.Saturation.{below, above, lowest, highest, saturated}
use Rattle.vectors.specs.Residues.{clamped, low_raised, high_raised}

pub below_half : (kind : ℕ) → below kind ≤ 2 ^ width kind / 2
unfolding below
below_half kind = pick_case (λ (n : ℕ). n ≤ 2 ^ width kind / 2) (signed kind) _ _ (λ e. omega arith) (λ e. zero-le)

-- 2 to the width is at most 2^32
modulus_most : (kind : ℕ) → 2 ^ width kind ≤ 2 ^ 32
modulus_most kind = pow_mono (width_le kind)

pub below_most : (kind : ℕ) → below kind ≤ 2 ^ 31
below_most kind = omega (arith, below_half kind, modulus_most kind)

pub above_most : (kind : ℕ) → above kind < 2 ^ 32
unfolding above
above_most kind = omega (arith, modulus_most kind, pow_pos (width kind))

-- a natural number as a difference
as_difference : (a : ℕ) → pos a ≡ sub_ℕ a 0
as_difference a = let e : a - 0 ≡ a = omega arith in rw (le-ltb a 0 zero-le, e)

le_self : (a p : ℕ) → le_z (sub_ℕ a p) (sub_ℕ a p) ≡ true
le_self a p = sub_order a a p p ∙ le-leb (a + p) (a + p) (omega arith)

lowest_le : (kind : ℕ) → le_z (lowest kind) (highest kind) ≡ true
lowest_le kind = rw (as_difference (above kind)) (sub_order 0 (above kind) (below kind) 0 ∙ le-leb (0 + 0) (above kind + below kind) (omega arith))

-- a saturated value is in the range of the kind
pub saturated_low : (kind : ℕ) (z : ℤ) → le_z (lowest kind) (saturated kind z) ≡ true
unfolding saturated
saturated_low kind z =
    pick_case (λ (y : ℤ). le_z (lowest kind) y ≡ true) (le_z (lowest kind) z) _ _
    (λ e. pick_case (λ (y : ℤ). le_z (lowest kind) y ≡ true) (le_z z (highest kind)) _ _ (λ f. e) (λ f. lowest_le kind))
    (λ e. le_self 0 (below kind))

pub saturated_high : (kind : ℕ) (z : ℤ) → le_z (saturated kind z) (highest kind) ≡ true
unfolding saturated
saturated_high kind z =
    pick_case (λ (y : ℤ). le_z y (highest kind) ≡ true) (le_z (lowest kind) z) _ _
    (λ e. pick_case (λ (y : ℤ). le_z y (highest kind) ≡ true) (le_z z (highest kind)) _ _ (λ f. f) (λ f. le-leb (above kind) (above kind) (omega arith)))
    (λ e. lowest_le kind)

-- and the value itself where that is in range
pub saturated_same : (kind : ℕ) (z : ℤ) → le_z (lowest kind) z ≡ true → le_z z (highest kind) ≡ true → saturated kind z ≡ z
unfolding saturated pick
saturated_same kind z e f = rw (e, f)

-- an integer above the range becomes the highest value, one below it the lowest
pub saturated_above : (kind : ℕ) (z : ℤ) → le_z z (highest kind) ≡ false → saturated kind z ≡ highest kind
unfolding saturated pick
saturated_above kind (pos a) e =
    let l : le_z (lowest kind) (pos a) ≡ true =
    rw (as_difference a) (sub_order 0 a (below kind) 0 ∙ le-leb (0 + 0) (a + below kind) (omega arith)) in
    rw (l, e)
saturated_above kind (negsuc a) e = absurd (true≢false e)

pub saturated_below : (kind : ℕ) (z : ℤ) → le_z (lowest kind) z ≡ false → saturated kind z ≡ lowest kind
unfolding saturated pick
saturated_below kind z e = rw e

-- the values of a kind are in its range
module _ (kind x : ℕ) (h : x < 2 ^ width kind) where
  in_range : (taken kind x ≤ x + below kind) × (x ≤ above kind + taken kind x)
  unfolding taken negative both below above pick
  in_range =
      by_test (signed kind)
      (λ s.
      by_test (leb (2 ^ width kind) (2 * x))
      (λ t. let l : 2 ^ width kind ≤ 2 * x = leb-true _ _ t in rw (s, t) (omega arith, omega arith))
      (λ t. let l : 2 * x < 2 ^ width kind = leb-false _ _ t in rw (s, t) (zero-le, omega arith)))
      (λ s. rw s (zero-le, omega arith))

  pub value_low : le_z (lowest kind) (value kind x) ≡ true
  unfolding value
  value_low = sub_order 0 x (below kind) (taken kind x) ∙ le-leb (0 + taken kind x) (x + below kind) (omega (arith, in_range.0))

  pub value_high : le_z (value kind x) (highest kind) ≡ true
  unfolding value
  value_high =
      rw (as_difference (above kind))
      (sub_order x (above kind) (taken kind x) 0 ∙ le-leb (x + 0) (above kind + taken kind x) (omega (arith, in_range.1)))

-- the value of an element plus 2^32
abbrev pub raised_of : ℕ → ℕ → ℕ
raised_of kind x = x + (2 ^ 32 - taken kind x)

-- choices by equal tests, of answers that are equal modulo 2^32
pick_remainder : (s t : Bool) (a b : ℕ) (y z : ℤ) → s ≡ t → a % 2 ^ 32 ≡ remainder y (2 ^ 32) → b % 2 ^ 32 ≡ remainder z (2 ^ 32)
    → pick s a b % 2 ^ 32 ≡ remainder (pick t y z) (2 ^ 32)
unfolding pick
pick_remainder true true a b y z e f g = f
pick_remainder true false a b y z e f g = absurd (true≢false e)
pick_remainder false true a b y z e f g = absurd (true≢false (sym e))
pick_remainder false false a b y z e f g = g

-- a difference between the range's ends, and the three of them raised
module _ (a p low high : ℕ) (l : p ≤ 2 ^ 32) (m : low ≤ 2 ^ 32) where
  abbrev raised : ℕ
  raised = a + (2 ^ 32 - p)

  low_test : leb (2 ^ 32 - low) raised ≡ le_z (sub_ℕ 0 low) (sub_ℕ a p)
  low_test =
      let e : 2 ^ 32 - low ≡ 0 + (2 ^ 32 - low) = omega arith in
      rw e (raised_order 0 a low p m l)

  high_test : leb raised (2 ^ 32 + high) ≡ le_z (sub_ℕ a p) (pos high)
  high_test =
      let e : 2 ^ 32 + high ≡ high + (2 ^ 32 - 0) = omega arith in
      rw (e, as_difference high) (raised_order a high p 0 l zero-le)

  low_mod : (2 ^ 32 - low) % 2 ^ 32 ≡ remainder (sub_ℕ 0 low) (2 ^ 32)
  low_mod =
      let e : 2 ^ 32 - low ≡ 0 + (2 ^ 32 - low) = omega arith in
      rw e (sym (remainder_sub (2 ^ 32) (omega arith) 0 low m))

  high_mod : (2 ^ 32 + high) % 2 ^ 32 ≡ remainder (pos high) (2 ^ 32)
  high_mod = omega arith

  raised_mod : raised % 2 ^ 32 ≡ remainder (sub_ℕ a p) (2 ^ 32)
  raised_mod = sym (remainder_sub (2 ^ 32) (omega arith) a p l)

  between_ends : clamped (2 ^ 32 - low) (2 ^ 32 + high) raised % 2 ^ 32
      ≡ remainder (pick (le_z (sub_ℕ 0 low) (sub_ℕ a p)) (pick (le_z (sub_ℕ a p) (pos high)) (sub_ℕ a p) (pos high)) (sub_ℕ 0 low)) (2 ^ 32)
  unfolding clamped
  between_ends =
      pick_remainder _ _ _ _ _ _ low_test (pick_remainder _ _ _ _ _ _ high_test raised_mod high_mod) low_mod

-- the nearest number of a range
pub nearest : (low high x : ℕ) → low ≤ high → max low (min x high) ≡ clamped low high x
unfolding clamped pick
nearest low high x l =
    by_order x low (λ m. rw (lt-leb low x m) (omega arith))
    (λ m.
    by_order high x (λ o. rw (le-leb low x m, lt-leb x high o) (omega arith))
    (λ o. rw (le-leb low x m, le-leb x high o) (omega arith)))

-- saturation of an element's value, by raised numbers
pub clamped_saturated : (from kind x : ℕ) → clamped (low_raised kind) (high_raised kind) (raised_of from x) % 2 ^ 32 ≡ remainder (saturated kind (value from x)) (2 ^ 32)
unfolding saturated value
clamped_saturated from kind x =
    between_ends x (taken from x) (below kind) (above kind) (taken_le from x) (omega (arith, below_most kind))
