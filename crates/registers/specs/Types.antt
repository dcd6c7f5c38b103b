-- The types of the four registers.
use Rattle.std.specs.Prelude.{List, Bool, ℕ, eqb, get_or, set}
use Rattle.registers.specs.declared.MatrixType.{MatrixType}

-- an empty register's
abbrev pub no_type : MatrixType
no_type = record { kind = 0; rows = 0; columns = 0 }

abbrev pub matrix_type : ℕ → ℕ → ℕ → MatrixType
matrix_type kind rows columns = record { kind = kind; rows = rows; columns = columns }

abbrev pub the_type : List MatrixType → ℕ → MatrixType
the_type ts r = get_or ts r no_type

abbrev pub is_empty : MatrixType → Bool
is_empty t = eqb t.rows 0

-- register r given a type
abbrev pub with_type : List MatrixType → ℕ → MatrixType → List MatrixType
with_type ts r t = set ts r t
