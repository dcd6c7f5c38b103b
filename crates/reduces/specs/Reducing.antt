-- What each element of a reduce is combined from, and how.
use Rattle.std.specs.Prelude.{List, ℕ, ◌+◌, ◌-◌, ◌*◌, ◌/◌, ◌%◌}
use Rattle.sheet.specs.declared.ReduceMode.{ReduceMode}
use Rattle.sheet.specs.declared.ReduceMode.TheVariants.{Row, Column, Both, TwoByTwo}
use Rattle.sheet.specs.declared.Combine.{Combine}
use Rattle.registers.specs.Registers.{element_of}
use Rattle.registers.specs.declared.MatrixType.{MatrixType}
use Rattle.combines.specs.Combining.{folded}

-- the number of the t-th source element of result (i, j), for a source of n columns: each of row i, each of column j, each of the
-- matrix, or those of rows 2i, 2i+1 by columns 2j, 2j+1
abbrev pub part_at : ReduceMode → ℕ → ℕ → ℕ → ℕ → ℕ
part_at Row n i j t = i * n + t
part_at Column n i j t = t * n + j
part_at Both n i j t = t
part_at TwoByTwo n i j t = (2 * i + t / 2) * n + (2 * j + t % 2)

-- how many there are after the first, for an m by n source
abbrev pub later_of : ReduceMode → ℕ → ℕ → ℕ
later_of Row m n = n - 1
later_of Column m n = m - 1
later_of Both m n = m * n - 1
later_of TwoByTwo m n = 3

-- element (i, j) of a reduce of register s, which holds a matrix of type t: the first combined with each later one, in order
unfoldable pub reduced : List ℕ → ℕ → MatrixType → ReduceMode → Combine → ℕ → ℕ → ℕ
reduced es s t mode combine i j =
    folded t.kind combine (λ (k : ℕ). element_of es s (part_at mode t.columns i j k)) (later_of mode t.rows t.columns)
