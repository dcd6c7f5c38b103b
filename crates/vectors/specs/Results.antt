-- What a vector step makes: the matrix times the input, a column vector, plus the bias. Sums wrap at 32 bits.
use Rattle.std.specs.Prelude.{List, ℕ, ◌^◌, ℤ, pos, ◌+ℤ◌, ◌*ℤ◌}
use Rattle.numbers.specs.Choice.{pick}
use Rattle.numbers.specs.Remainders.{remainder}
use Rattle.kinds.specs.Values.{value}
use Rattle.kinds.specs.Sums.{sum_z}
use Rattle.sheet.specs.declared.VectorStep.{VectorStep}
use Rattle.memory.specs.Elements.{element_at}
use Rattle.registers.specs.Types.{matrix_type}
use Rattle.registers.specs.declared.MatrixType.{MatrixType}
use Rattle.vectors.specs.Places.{size_of, matrix_byte, bias_size, bias_byte}
use Rattle.vectors.specs.Components.{component_at}

-- the result is M by 1
abbrev pub vector_type : VectorStep → MatrixType
vector_type v = matrix_type v.kind v.rows 1

-- matrix element (r, c), raw data by the matrix interpretation
abbrev pub matrix_value : List ℕ → VectorStep → ℕ → ℕ → ℤ
matrix_value memory v r c = value v.matrix (element_at memory (matrix_byte v r c) (size_of v))

-- bias element i, raw data; 0 without bias
unfoldable pub bias_at : List ℕ → VectorStep → ℕ → ℕ
bias_at memory v i = pick v.biased (element_at memory (bias_byte v i) bias_size) 0

-- row r of the matrix times a vector: the sum of its first n products
abbrev pub product_to : List ℕ → VectorStep → (ℕ → ℤ) → ℕ → ℕ → ℤ
product_to memory v components r n = sum_z (λ (c : ℕ). matrix_value memory v r c *ℤ components c) n

-- element r of the matrix times a vector of K components, plus the bias
unfoldable pub result_at : List ℕ → VectorStep → (ℕ → ℤ) → ℕ → ℕ
result_at memory v components r = remainder (product_to memory v components r v.columns +ℤ pos (bias_at memory v r)) (2 ^ 32)

-- the result's element in row i of its one column, from the registers' elements, the input register's kind and memory
abbrev pub vector_result : List ℕ → ℕ → List ℕ → VectorStep → ℕ → ℕ → ℕ
vector_result es kind memory v i j = result_at memory v (component_at es kind v) i
