-- When a reduce is refused by its source's type, and the type that it makes.
use Rattle.std.specs.Prelude.{Bool, true, ℕ, ◌*◌, eqb}
use Rattle.numbers.specs.Choice.{pick, both}
use Rattle.refusals.specs.Refusals.{empty_register, shapes_disagree}
use Rattle.sheet.specs.declared.ReduceMode.{ReduceMode}
use Rattle.sheet.specs.declared.ReduceMode.TheVariants.{Row, Column, Both, TwoByTwo}
use Rattle.registers.specs.Types.{matrix_type, is_empty}
use Rattle.registers.specs.declared.MatrixType.{MatrixType}

-- mode 1 rows, mode 2 columns are the source's; mode 4 has no odd side, and a result of half the sides
abbrev pub reduce_agrees : MatrixType → ℕ → ℕ → ReduceMode → Bool
reduce_agrees t rows columns Row = eqb rows t.rows
reduce_agrees t rows columns Column = eqb columns t.columns
reduce_agrees t rows columns Both = true
reduce_agrees t rows columns TwoByTwo = both (eqb t.rows (2 * rows)) (eqb t.columns (2 * columns))

-- a source that is empty, then shapes that disagree, else 0
unfoldable pub reduce_refusal : MatrixType → ℕ → ℕ → ReduceMode → ℕ
reduce_refusal t rows columns mode = pick (is_empty t) empty_register (pick (reduce_agrees t rows columns mode) 0 shapes_disagree)

-- the result keeps the source's kind
abbrev pub reduced_type : MatrixType → ℕ → ℕ → MatrixType
reduced_type t rows columns = matrix_type t.kind rows columns
