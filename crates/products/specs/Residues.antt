-- What the inner functions of a multiply-add give: values modulo 2^32, and sums of their products.
use Rattle.std.specs.Prelude.{List, ℕ, zero, suc, ◌+◌, ◌*◌, ◌%◌, ◌^◌, get_or}
use Rattle.numbers.specs.Lists.{line}
use Rattle.kinds.specs.Values.{value}
use Rattle.numbers.specs.Remainders.{remainder}
use Rattle.registers.specs.Registers.{element_of}
use Rattle.registers.specs.declared.MatrixType.{MatrixType}

-- the value of element number e modulo 2^32
abbrev pub residue_at : List ℕ → ℕ → MatrixType → ℕ → ℕ
residue_at es s t e = remainder (value t.kind (element_of es s e)) (2 ^ 32)

-- the first places of a list made the values of a matrix
unfoldable pub residues_on : List ℕ → List ℕ → ℕ → MatrixType → List ℕ
residues_on d es s t = line d 0 (residue_at es s t) (t.rows * t.columns)

-- the sum of the first so many products
unfoldable pub dot_of : (ℕ → ℕ) → (ℕ → ℕ) → ℕ → ℕ
dot_of x y zero = 0
dot_of x y (suc t) = (dot_of x y t + x t * y t) % 2 ^ 32

-- element (i, j) of register a's matrix times y, a matrix's values by number, plus register c's matrix
abbrev pub dot_plus : List ℕ → ℕ → MatrixType → List ℕ → ℕ → MatrixType → ℕ → ℕ → ℕ
dot_plus es a ta y c tc i j =
    (dot_of (λ (t : ℕ). residue_at es a ta (i * ta.columns + t)) (λ (t : ℕ). get_or y (j + t * tc.columns) 0) ta.columns + residue_at es c tc (i * tc.columns + j))
    % 2 ^ 32
