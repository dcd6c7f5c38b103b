-- The numbers of a step's elements, and how far they reach: where the last ones lie in memory, all do.
use Rattle.std.specs.Prelude.{◌≡◌, true, false, ℕ, ◌+◌, ◌-◌, ◌*◌, ◌/◌, ◌%◌, ◌<◌, ◌≤◌}
use Rattle.std.proofs.Common.{mul-le-mul_right}
use native.Mathlib.Omega.{arith}
use borrow.Author.Tests.{lt-ltb, le-ltb, leb-true}
use Rattle.numbers.specs.Choice.{pick}
use Rattle.numbers.specs.Laws.Choice.{pick_case, both_left, both_right, by_order, by_test}
use Rattle.sheet.specs.declared.VectorStep.{VectorStep}
use Rattle.registers.specs.Laws.Grids.{row_end, number_at, number_row, number_column}
use Rattle.vectors.specs.Places.{size_of, row_step, column_step, matrix_byte, bias_size, bias_byte, matrix_elements, elements_of, end_of}
use Rattle.vectors.specs.Refusals.{outside}
use Rattle.vectors.specs.Within.{last_end, last_inside}

module _ (v : VectorStep) where
  -- matrix element (r, c) is element r*K+c
  pub matrix_end : (r c : ℕ) → r < v.rows → c < v.columns → end_of v (r * v.columns + c) ≡ matrix_byte v r c + size_of v
  unfolding end_of pick
  matrix_end r c l h =
      rw (lt-ltb (r * v.columns + c) (matrix_elements v) (row_end r v.rows v.columns c l h))
      (number_at v.columns (λ (r c : ℕ). matrix_byte v r c + size_of v) r c h)

  -- bias element i is element M*K+i
  pub bias_end : (i : ℕ) → end_of v (matrix_elements v + i) ≡ bias_byte v i + bias_size
  unfolding end_of pick
  bias_end i =
      let e : matrix_elements v + i - matrix_elements v ≡ i = omega arith in
      rw (le-ltb (matrix_elements v + i) (matrix_elements v) (omega arith), e)

  pub matrix_among : (e : ℕ) → e < matrix_elements v → e < elements_of v
  unfolding elements_of
  matrix_among e h = pick_case (λ (n : ℕ). e < n) v.biased _ _ (λ b. omega arith) (λ b. h)

  pub bias_among : (i : ℕ) → v.biased ≡ true → i < v.rows → matrix_elements v + i < elements_of v
  unfolding elements_of pick
  bias_among i b h = rw b (omega arith)

  pub elements_most : elements_of v ≤ matrix_elements v + v.rows
  unfolding elements_of
  elements_most = pick_case (λ (n : ℕ). n ≤ matrix_elements v + v.rows) v.biased _ _ (λ b. omega arith) (λ b. omega arith)

  -- an element further down or to the right lies no earlier
  matrix_mono : (r c p q : ℕ) → r ≤ p → c ≤ q → matrix_byte v r c ≤ matrix_byte v p q
  matrix_mono r c p q h l = omega (arith, mul-le-mul_right (row_step v) h, mul-le-mul_right (column_step v) l)

  module _ (memory : ℕ) (last : last_inside v memory ≡ true) where
    bias_most : v.biased ≡ true → bias_byte v v.rows ≤ memory
    unfolding last_inside pick
    bias_most b = leb-true _ _ (rw b at (both_right _ _ last))

    matrix_inside : (e : ℕ) → e < matrix_elements v → end_of v e ≤ memory
    unfolding last_inside last_end end_of pick
    matrix_inside e h =
        let corner : matrix_byte v (v.rows - 1) (v.columns - 1) + size_of v ≤ memory = leb-true _ _ (both_left _ _ last) in
        let p : e / v.columns ≤ v.rows - 1 = omega (arith, number_row v.rows v.columns e h) in
        let q : e % v.columns ≤ v.columns - 1 = omega (arith, number_column v.rows v.columns e h) in
        rw (lt-ltb e (matrix_elements v) h)
        (omega (arith, matrix_mono (e / v.columns) (e % v.columns) (v.rows - 1) (v.columns - 1) p q))

    bias_inside : (e : ℕ) → matrix_elements v ≤ e → e < elements_of v → end_of v e ≤ memory
    unfolding elements_of end_of pick
    bias_inside e l h =
        rw (le-ltb e (matrix_elements v) l)
        (by_test v.biased (λ b. let u : e < matrix_elements v + v.rows = rw b at h in omega (arith, bias_most b))
        (λ b. let u : e < matrix_elements v = rw b at h in absurd (omega arith)))

    pub all_inside : (e : ℕ) → e < elements_of v → outside v memory e ≡ false
    all_inside e h = le-ltb _ _ (by_order e (matrix_elements v) (λ l. matrix_inside e l) (λ l. bias_inside e l h))
