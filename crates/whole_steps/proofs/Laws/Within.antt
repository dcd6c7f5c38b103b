-- What a sheet's whole step keeps to, that its result's type does, and that the element of its refusal is one of a matrix or of a bias.
use Rattle.std.specs.Prelude.{◌≡◌, true, List, ℕ, ◌+◌, ◌≤◌}
use Rattle.std.proofs.Common.{ap, arith, ltb-true}
use Rattle.numbers.specs.Laws.Choice.{both_left, both_right, between_low, between_high, by_order}
use Rattle.kinds.specs.Widths.{kind_ok}
use Rattle.sheet.specs.Sizes.{side_places, matrix_places}
use Rattle.sheet.specs.Editions.{limits, side_ok}
use Rattle.sheet_ranges.specs.Steps.{fill_ok, reduce_ok, transpose_ok, multiply_ok, whole_ok}
use Rattle.sheet.specs.Laws.Editions.{limits_side}
use Rattle.sheet.specs.declared.WholeStep.{WholeStep}
use Rattle.sheet.specs.declared.WholeStep.TheVariants.{Fill, Reduce, Transpose, MultiplyAdd, Vector}
use Rattle.registers.specs.Types.{matrix_type, the_type}
use Rattle.registers.specs.Sized.{SizedType, Sized}
use Rattle.registers.specs.Laws.Sized.{sized_with}
use Rattle.registers.specs.declared.MatrixType.{MatrixType}
use Rattle.vectors.proofs.Laws.Within.{vector_result_lem, vector_parts, vector_sized, vector_element}
use Rattle.whole_steps.specs.Refusals.{whole_refusal}
use Rattle.whole_steps.specs.Transposing.{transposed_type}
use Rattle.whole_steps.specs.Whole.{whole_result, whole_type, whole_types}
use Rattle.whole_steps.specs.Within.{Side, WholeParts, WholeOk}

side : (edition x : ℕ) → side_ok edition x ≡ true → Side x
side edition x e =
    let most : ℕ = (limits edition).side in
    record { low = between_low 1 most x e; high = omega (arith, between_high 1 most x e, limits_side edition) }

-- a whole step that a sheet may hold
pub whole_ok_lem : (edition : ℕ) (w : WholeStep) → whole_ok edition w ≡ true → WholeOk w
unfolding fill_ok reduce_ok transpose_ok multiply_ok
whole_ok_lem edition (Fill register rows columns kind value) e =
    let f = both_right _ _ e in
    let g = both_right _ _ f in
    let h = both_right _ _ g in
    record { result = ltb-true _ _ (both_left _ _ e); parts = (side edition rows (both_left _ _ f), side edition columns (both_left _ _ g), both_left _ _ h, both_right _ _ h) }
whole_ok_lem edition (Reduce result source rows columns mode combine) e =
    let f = both_right _ _ e in
    let g = both_right _ _ f in
    record { result = ltb-true _ _ (both_left _ _ e); parts = (ltb-true _ _ (both_left _ _ f), side edition rows (both_left _ _ g), side edition columns (both_right _ _ g)) }
whole_ok_lem edition (Transpose result source) e = record { result = ltb-true _ _ (both_left _ _ e); parts = ltb-true _ _ (both_right _ _ e) }
whole_ok_lem edition (MultiplyAdd result a b c) e =
    let f = both_right _ _ e in
    let g = both_right _ _ f in
    record { result = ltb-true _ _ (both_left _ _ e); parts = (ltb-true _ _ (both_left _ _ f), ltb-true _ _ (both_left _ _ g), ltb-true _ _ (both_right _ _ g)) }
whole_ok_lem edition (Vector v) e = record { result = vector_result_lem edition v e; parts = vector_parts edition v e }

sized_sides : (kind rows columns : ℕ) → kind_ok kind ≡ true → Side rows → Side columns → SizedType (matrix_type kind rows columns)
sized_sides kind rows columns k m n =
    record { kind = k; rows = m.high; columns = n.high; some = λ h. n.low; none = λ e. absurd (omega (arith, m.low)) }

sized_transposed : (t : MatrixType) → SizedType t → SizedType (transposed_type t)
sized_transposed t s =
    record {
      kind = s.kind;
      rows = s.columns;
      columns = s.rows;
      some =
          λ h.
          by_order 0 t.rows (λ l. l)
          (λ l. let z : t.columns ≡ 0 = ap (λ (u : MatrixType). u.columns) (s.none (omega arith)) in absurd (omega arith));
      none = λ e. ap transposed_type (s.none (by_order 0 t.rows (λ l. absurd (omega (arith, s.some l))) (λ l. omega arith)));
    }

-- the type that a whole step makes is within Sizes
pub sized_type : (ts : List MatrixType) (w : WholeStep) → Sized ts → WholeParts w → SizedType (whole_type ts w)
sized_type ts (Fill register rows columns kind value) s p = sized_sides kind rows columns p.2 p.0 p.1
sized_type ts (Reduce result source rows columns mode combine) s p = sized_sides _ rows columns (s.each source).kind p.1 p.2
sized_type ts (Transpose result source) s p = sized_transposed (the_type ts source) (s.each source)
sized_type ts (MultiplyAdd result a b c) s p = s.each c
sized_type ts (Vector v) s p = vector_sized v p

-- so the types that it leaves are
pub sized_whole : (ts : List MatrixType) (w : WholeStep) → Sized ts → WholeOk w → Sized (whole_types ts w)
sized_whole ts w s ok = sized_with ts (whole_result w) (whole_type ts w) s (sized_type ts w s ok.parts)

-- the element that a refusal names is one of a matrix or, after these, of a bias
pub refusal_element : (edition : ℕ) (ts : List MatrixType) (len : ℕ) (w : WholeStep) → WholeParts w
    → (whole_refusal edition ts len w).element ≤ matrix_places + side_places
refusal_element edition ts len (Fill register rows columns kind value) p = omega arith
refusal_element edition ts len (Reduce result source rows columns mode combine) p = omega arith
refusal_element edition ts len (Transpose result source) p = omega arith
refusal_element edition ts len (MultiplyAdd result a b c) p = omega arith
refusal_element edition ts len (Vector v) p = vector_element (the_type ts v.input) len v p
