-- Matrices in registers. Element (row, col) of an M by N matrix has number row*N+col; the places past the matrix are 0.
use Rattle.std.specs.Prelude.{List, ℕ, ◌+◌, ◌*◌, ◌/◌, ◌%◌, replicate}
use Rattle.numbers.specs.Lists.{line}
use Rattle.sheet.specs.Sizes.{matrix_places}
use Rattle.registers.specs.Types.{with_type}
use Rattle.registers.specs.Registers.{element_of, with_block}
use Rattle.registers.specs.declared.MatrixType.{MatrixType}
use Rattle.registers.specs.declared.Registers.{Registers}

-- element (i, j) of register r, which holds a matrix of type t
abbrev pub matrix_at : List ℕ → ℕ → MatrixType → ℕ → ℕ → ℕ
matrix_at es r t i j = element_of es r (i * t.columns + j)

-- element number e, for elements that f gives by row and column
abbrev pub numbered : ℕ → (ℕ → ℕ → ℕ) → ℕ → ℕ
numbered columns f e = f (e / columns) (e % columns)

unfoldable pub blank : List ℕ
blank = replicate matrix_places 0

-- the places of a register that holds a matrix whose elements f gives
unfoldable pub block : ℕ → ℕ → (ℕ → ℕ → ℕ) → List ℕ
block rows columns f = line blank 0 (numbered columns f) (rows * columns)

-- the first places of a list made those of a matrix whose elements f gives; the others stay
unfoldable pub block_on : List ℕ → ℕ → ℕ → (ℕ → ℕ → ℕ) → List ℕ
block_on d rows columns f = line d 0 (numbered columns f) (rows * columns)

-- register r made a matrix of type t whose elements f gives
abbrev pub made : Registers → ℕ → MatrixType → (ℕ → ℕ → ℕ) → Registers
made g r t f = record { types = with_type g.types r t; elements = with_block g.elements r (block t.rows t.columns f) }
