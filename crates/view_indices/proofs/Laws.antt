-- Laws of rule 2's definitions.
use Prim.Native.Nat.{ℕ, zero, suc, ◌+◌, ◌*◌, ◌^◌, ◌<◌, ◌≤◌, zero-le}
use mathlib.Core.Path.{◌≡◌, refl, sym, ◌∙◌}
use mathlib.Core.Bool.{true≢false}
use native.Mathlib.Nat.{mul-le-mul, pow-suc, pow-le-pow_right, le_trans, not-suc-le-zero}
use native.Mathlib.Numerals.{add-one}
use native.Mathlib.Omega.{arith}
use lib.Dec.{ltb, lit<, lit≤}
use borrow.Author.Tests.{lt-ltb, le-ltb}
use Rattle.numbers.specs.Choice.{pick}
use Rattle.numbers.specs.Laws.Choice.{pick_case}
use Rattle.sheet.specs.Sizes.{rank_places, size_limit}
use Rattle.view_indices.specs.Indices.{row_major}

-- Rule 2: the row-major stride of dimension i of n
module _ (span : ℕ → ℕ) (i : ℕ) where
  pub row_major_past : (n : ℕ) → n ≤ i + 1 → row_major span n i ≡ 1
  unfolding row_major pick
  row_major_past zero h = refl
  row_major_past (suc n) h = let l : n ≤ i = omega arith in rw (le-ltb i n l)

  pub row_major_more : (n : ℕ) → i < n → row_major span (n + 1) i ≡ row_major span n i * span n
  unfolding row_major pick
  row_major_more n h = rw (add-one, lt-ltb i n h)

  row_major_le : (n : ℕ) → ((k : ℕ) → k < suc n → span k ≤ size_limit) → row_major span (suc n) i ≤ size_limit ^ n
  unfolding row_major
  row_major_le zero h = pick_case (λ (x : ℕ). x ≤ 1) (ltb i 0) _ _ (λ t. absurd (true≢false (sym t ∙ le-ltb i 0 zero-le))) (λ t. lit≤ tt)
  row_major_le (suc n) h =
      pick_case (λ (x : ℕ). x ≤ size_limit ^ suc n) (ltb i (suc n)) _ _
      (λ t. rw pow-suc (mul-le-mul (row_major_le n (λ k l. h k (omega arith))) (h (suc n) (omega arith))))
      (λ t. pow-le-pow_right {n = size_limit} (lit< tt) {i = 0} {j = suc n} zero-le)

  -- of at most five dimensions
  pub row_major_most : (n : ℕ) → 0 < n → n ≤ rank_places → ((k : ℕ) → k < n → span k ≤ size_limit) → row_major span n i ≤ size_limit ^ 4
  row_major_most zero p m h = absurd (not-suc-le-zero p)
  row_major_most (suc n) p m h = le_trans (row_major_le n h) (pow-le-pow_right {n = size_limit} (lit< tt) {i = n} {j = 4} (omega arith))
