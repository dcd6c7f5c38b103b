-- A sized type's elements have places, and every change of types keeps to Sizes.
use Rattle.std.specs.Prelude.{◌≡◌, refl, false, List, [], ◌∷◌, ℕ, zero, suc, ◌*◌, ◌≤◌}
use Rattle.std.proofs.Common.{mul-le-mul, arith}
use Rattle.std.proofs.lemmas.Bool.{eqb-false}
use Rattle.numbers.specs.Laws.Places.{none_all}
use Rattle.sheet.specs.Sizes.{register_count, side_places, matrix_places}
use Rattle.registers.specs.Types.{no_type, the_type, is_empty, with_type}
use Rattle.registers.specs.Registers.{empty_registers}
use Rattle.registers.specs.Sized.{SizedType, Sized}
use Rattle.registers.specs.declared.MatrixType.{MatrixType}

pub sides : (a b : ℕ) → a ≤ side_places → b ≤ side_places → a * b ≤ matrix_places
sides a b p q = mul-le-mul {n₂ = side_places} {m₂ = side_places} p q

-- the elements of a matrix have places
pub sized_places : (t : MatrixType) → SizedType t → t.rows * t.columns ≤ matrix_places
sized_places t s = sides t.rows t.columns s.rows s.columns

-- a register that is not empty has one
pub sized_some : (t : MatrixType) → SizedType t → is_empty t ≡ false → 1 ≤ t.rows * t.columns
sized_some t s e =
    let rows : 1 ≤ t.rows = omega (arith, eqb-false t.rows 0 e) in
    mul-le-mul {n₁ = 1} {m₁ = 1} rows (s.some rows)

sized_none : SizedType no_type
sized_none = record { kind = refl; rows = omega arith; columns = omega arith; some = λ h. h; none = λ e. refl }

at_set : (P : MatrixType → Type 0) (ts : List MatrixType) (r : ℕ) (t : MatrixType) (k : ℕ) → P (the_type ts k) → P t → P (the_type (with_type ts r t) k)
at_set P [] r t k p q = p
at_set P (x ∷ ts) zero t zero p q = q
at_set P (x ∷ ts) zero t (suc k) p q = p
at_set P (x ∷ ts) (suc r) t zero p q = p
at_set P (x ∷ ts) (suc r) t (suc k) p q = at_set P ts r t k p q

pub sized_with : (ts : List MatrixType) (r : ℕ) (t : MatrixType) → Sized ts → SizedType t → Sized (with_type ts r t)
sized_with ts r t s p = record { each = λ k. at_set SizedType ts r t k (s.each k) p }

pub sized_empty : Sized empty_registers.types
unfolding empty_registers
sized_empty = record { each = λ k. none_all SizedType register_count no_type no_type sized_none sized_none k }
