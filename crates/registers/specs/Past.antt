-- The places past a matrix are 0, which are all places of an empty register: what a step that writes a matrix's own places counts on.
use Rattle.std.specs.Prelude.{◌≡◌, List, ℕ, ◌-◌, ◌*◌, ◌<◌, ◌≤◌}
use Rattle.numbers.specs.Lists.{line}
use Rattle.sheet.specs.Sizes.{register_count, matrix_places}
use Rattle.registers.specs.Types.{the_type}
use Rattle.registers.specs.Registers.{place_of, element_of, filled_elements}
use Rattle.registers.specs.declared.MatrixType.{MatrixType}

pub record Past (ts : List MatrixType) (es : List ℕ) : Type 0 where
  pub at : (r : ℕ) → r < register_count → (e : ℕ) → (the_type ts r).rows * (the_type ts r).columns ≤ e → e < matrix_places → element_of es r e ≡ 0

-- register r's first n places made what g gives, and the places from there to `old`, if it is past n, made 0
abbrev pub written_to : List ℕ → ℕ → (ℕ → ℕ) → ℕ → ℕ → List ℕ
written_to es r g n old = filled_elements (line es (place_of r 0) g n) r n (old - n) 0
