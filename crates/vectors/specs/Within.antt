-- Vector steps within Sizes, whose matrix and bias lie in memory: bounds that contracts cite.
use Rattle.std.specs.Prelude.{◌≡◌, Bool, true, ℕ, ◌+◌, ◌-◌, ◌*◌, ◌<◌, ◌≤◌, leb}
use Rattle.numbers.specs.Choice.{pick, both}
use Rattle.kinds.specs.Widths.{word_kind}
use Rattle.sheet.specs.Sizes.{register_count, side_places}
use Rattle.sheet.specs.declared.VectorStep.{VectorStep}
use Rattle.vectors.specs.Places.{size_of, row_step, column_step, matrix_byte, bias_size, bias_byte}

-- beside its result: the register that it reads, its kind and its sides
pub record VectorParts (v : VectorStep) : Type 0 where
  pub kind : word_kind v.kind ≡ true
  pub input : v.input < register_count
  pub some : 1 ≤ v.rows
  pub rows : v.rows ≤ side_places
  pub columns : v.columns ≤ side_places

-- n elements of a size, `across` bytes apart from `first` on, lie in a memory of so many bytes
pub record LineInside (first across size n memory : ℕ) : Type 0 where
  pub at : (c : ℕ) → c < n → first + c * across + size ≤ memory

-- the rows of the matrix and the elements of the bias do
pub record Inside (v : VectorStep) (memory : ℕ) : Type 0 where
  pub row : (r : ℕ) → r < v.rows → LineInside (v.offset + r * row_step v) (column_step v) (size_of v) v.columns memory
  pub bias : (i : ℕ) → i < v.rows → v.biased ≡ true → bias_byte v i + bias_size ≤ memory

-- the byte past those of the last matrix element
unfoldable pub last_end : VectorStep → ℕ
last_end v = matrix_byte v (v.rows - 1) (v.columns - 1) + size_of v

-- the last matrix element, and the last bias element if there is a bias, lie in memory
unfoldable pub last_inside : VectorStep → ℕ → Bool
last_inside v memory =
    both (leb (last_end v) memory)
    (pick v.biased (leb (bias_byte v v.rows) memory) true)
