-- Transpose swaps rows and columns.
use Rattle.std.specs.Prelude.{List, ℕ}
use Rattle.numbers.specs.Choice.{pick}
use Rattle.refusals.specs.Refusals.{empty_register}
use Rattle.registers.specs.Types.{matrix_type, is_empty}
use Rattle.registers.specs.Grids.{matrix_at}
use Rattle.registers.specs.declared.MatrixType.{MatrixType}

unfoldable pub transpose_refusal : MatrixType → ℕ
transpose_refusal t = pick (is_empty t) empty_register 0

abbrev pub transposed_type : MatrixType → MatrixType
transposed_type t = matrix_type t.kind t.columns t.rows

abbrev pub transposed : List ℕ → ℕ → MatrixType → ℕ → ℕ → ℕ
transposed es s t i j = matrix_at es s t j i
