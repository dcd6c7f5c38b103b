-- An element of a multiply-add is below 2^32, and C's kind is as wide.
use Rattle.std.specs.Prelude.{◌≡◌, true, List, ℕ, ◌^◌, ◌<◌, ◌+ℤ◌}
use Rattle.std.proofs.Common.{arith}
use Rattle.numbers.specs.Laws.Choice.{both_right}
use Rattle.kinds.specs.Widths.{width}
use Rattle.kinds.specs.Laws.Widths.{word_width}
use Rattle.numbers.specs.Laws.Remainders.{remainder_lt}
use Rattle.registers.specs.declared.MatrixType.{MatrixType}
use Rattle.products.specs.Shapes.{multiply_agrees}
use Rattle.products.specs.Multiplying.{value_at, product_at, multiplied}

pub multiplied_fits : (es : List ℕ) (a : ℕ) (ta : MatrixType) (b : ℕ) (tb : MatrixType) (c : ℕ) (tc : MatrixType) → multiply_agrees ta tb tc ≡ true
    → (i j : ℕ) → multiplied es a ta b tb c tc i j < 2 ^ width tc.kind
unfolding multiplied multiply_agrees
multiplied_fits es a ta b tb c tc e i j =
    rw (word_width tc.kind (both_right _ _ (both_right _ _ (both_right _ _ e)))) (remainder_lt (product_at es a ta b tb i j +ℤ value_at es c tc i j) {n = 2 ^ 32} (omega arith))
