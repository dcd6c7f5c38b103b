-- Elements fit: each is raw bits of its matrix's kind, and the places past a matrix are 0, which are all places of an empty register.
use Rattle.std.specs.Prelude.{◌≡◌, List, ℕ, ◌*◌, ◌^◌, ◌<◌, ◌≤◌}
use Rattle.kinds.specs.Widths.{width}
use Rattle.sheet.specs.Sizes.{register_count, matrix_places}
use Rattle.registers.specs.Types.{the_type}
use Rattle.registers.specs.Registers.{element_of}
use Rattle.registers.specs.declared.MatrixType.{MatrixType}

-- g gives the places of a register that holds a matrix of type t
pub record FitMatrix (t : MatrixType) (g : ℕ → ℕ) : Type 0 where
  pub inside : (e : ℕ) → e < t.rows * t.columns → g e < 2 ^ width t.kind
  pub past : (e : ℕ) → t.rows * t.columns ≤ e → e < matrix_places → g e ≡ 0

pub record Fit (ts : List MatrixType) (es : List ℕ) : Type 0 where
  pub each : (r : ℕ) → r < register_count → FitMatrix (the_type ts r) (element_of es r)
