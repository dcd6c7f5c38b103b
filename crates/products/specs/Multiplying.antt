-- Multiply-add: exact A times B plus C, modulo 2^32.
use Rattle.std.specs.Prelude.{List, ℕ, ◌^◌, ℤ, ◌+ℤ◌, ◌*ℤ◌}
use Rattle.kinds.specs.Values.{value}
use Rattle.kinds.specs.Sums.{sum_z}
use Rattle.numbers.specs.Remainders.{remainder}
use Rattle.registers.specs.Grids.{matrix_at}
use Rattle.registers.specs.declared.MatrixType.{MatrixType}

-- the value of element (i, j) of register r, which holds a matrix of type t
abbrev pub value_at : List ℕ → ℕ → MatrixType → ℕ → ℕ → ℤ
value_at es r t i j = value t.kind (matrix_at es r t i j)

-- element (i, j) of A times B, for A and B in registers a and b, of types ta and tb
abbrev pub product_at : List ℕ → ℕ → MatrixType → ℕ → MatrixType → ℕ → ℕ → ℤ
product_at es a ta b tb i j = sum_z (λ (t : ℕ). value_at es a ta i t *ℤ value_at es b tb t j) ta.columns

unfoldable pub multiplied : List ℕ → ℕ → MatrixType → ℕ → MatrixType → ℕ → MatrixType → ℕ → ℕ → ℕ
multiplied es a ta b tb c tc i j = remainder (product_at es a ta b tb i j +ℤ value_at es c tc i j) (2 ^ 32)
