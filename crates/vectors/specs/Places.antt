-- Where the elements of the matrix and of the bias lie in memory. Numbers don't wrap.
use Rattle.std.specs.Prelude.{ℕ, ◌+◌, ◌-◌, ◌*◌, ltb}
use Rattle.numbers.specs.Choice.{pick}
use Rattle.kinds.specs.Widths.{bytes_of}
use Rattle.sheet.specs.declared.MemoryLayout.{MemoryLayout}
use Rattle.sheet.specs.declared.MemoryLayout.TheVariants.{RowMajor, ColumnMajor}
use Rattle.sheet.specs.declared.VectorStep.{VectorStep}
use Rattle.registers.specs.Grids.{numbered}

-- x of a row-major matrix, y of a column-major one
abbrev pub by_layout : MemoryLayout → ℕ → ℕ → ℕ
by_layout RowMajor x y = x
by_layout ColumnMajor x y = y

-- the bytes of a matrix element
abbrev pub size_of : VectorStep → ℕ
size_of v = bytes_of v.matrix

-- 002: contiguous elements form the rows of a row-major matrix, the columns of a column-major one, and the stride is the number of bytes to add
-- to go from one row or column to the next. So the bytes from one row to the next are
unfoldable pub row_step : VectorStep → ℕ
row_step v = by_layout v.layout v.stride (size_of v)

-- and from one column to the next
unfoldable pub column_step : VectorStep → ℕ
column_step v = by_layout v.layout (size_of v) v.stride

-- the first byte of matrix element (r, c)
abbrev pub matrix_byte : VectorStep → ℕ → ℕ → ℕ
matrix_byte v r c = v.offset + r * row_step v + c * column_step v

-- a bias element is 32-bit
abbrev pub bias_size : ℕ
bias_size = 4

-- the first byte of bias element i: they are consecutive
abbrev pub bias_byte : VectorStep → ℕ → ℕ
bias_byte v i = v.bias + bias_size * i

-- The elements that a step reads from memory: matrix element (r, c) is element r*K+c, then, if there is a bias, bias element i is element M*K+i.
abbrev pub matrix_elements : VectorStep → ℕ
matrix_elements v = v.rows * v.columns

unfoldable pub elements_of : VectorStep → ℕ
elements_of v = pick v.biased (matrix_elements v + v.rows) (matrix_elements v)

-- the byte past those of an element
unfoldable pub end_of : VectorStep → ℕ → ℕ
end_of v e =
    pick (ltb e (matrix_elements v))
    (numbered v.columns (λ (r c : ℕ). matrix_byte v r c + size_of v) e)
    (bias_byte v (e - matrix_elements v) + bias_size)
