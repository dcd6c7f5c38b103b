-- What a sheet's vector step keeps to, that its result's type does, and that the element of its refusal is one of a matrix or of a bias.
use Rattle.std.specs.Prelude.{◌≡◌, true, ltb}
use Prim.Native.Nat.{ℕ, ◌+◌, ◌<◌, ◌≤◌, zero-le}
use Rattle.std.proofs.Common.{arith}
use borrow.Author.Tests.{ltb-true, le-leb}
use Rattle.numbers.specs.Laws.Choice.{pick_case, both_left, both_right, between_low, between_high}
use Rattle.refusals.specs.declared.Stop.{Stop}
use Rattle.sheet.specs.Sizes.{register_count, side_places, matrix_places}
use Rattle.sheet.specs.Editions.{limits}
use Rattle.sheet_ranges.specs.Steps.{vector_ok}
use Rattle.sheet.specs.Laws.Editions.{limits_side}
use Rattle.sheet.specs.declared.VectorStep.{VectorStep}
use Rattle.registers.specs.Types.{is_empty}
use Rattle.registers.specs.Sized.{SizedType}
use Rattle.registers.specs.Laws.Sized.{sides}
use Rattle.registers.specs.declared.MatrixType.{MatrixType}
use Rattle.vectors.specs.Places.{elements_of}
use Rattle.vectors.specs.Refusals.{input_agrees, first_outside, memory_refusal, vector_refusal}
use Rattle.vectors.specs.Results.{vector_type}
use Rattle.vectors.specs.Within.{VectorParts}
use Rattle.vectors.proofs.Laws.Reach.{elements_most}

-- a vector step that a sheet may hold
module _ (edition : ℕ) (v : VectorStep) (ok : vector_ok edition v ≡ true) where
  pub vector_result_lem : v.result < register_count
  unfolding vector_ok
  vector_result_lem = ltb-true _ _ (both_left _ _ (both_right _ _ ok))

  pub vector_parts : VectorParts v
  unfolding vector_ok
  vector_parts =
      let most : ℕ = (limits edition).side in
      let a = both_right _ _ (both_right _ _ ok) in
      let b = both_right _ _ a in
      let d = both_right _ _ (both_right _ _ (both_right _ _ b)) in
      let e = both_right _ _ d in
      record {
        kind = both_left _ _ a;
        input = ltb-true _ _ (both_left _ _ b);
        some = between_low 1 most v.rows (both_left _ _ d);
        rows = omega (arith, between_high 1 most v.rows (both_left _ _ d), limits_side edition);
        columns = omega (arith, between_high 1 most v.columns (both_left _ _ e), limits_side edition);
      }

-- the type that it makes is within Sizes
pub vector_sized : (v : VectorStep) → VectorParts v → SizedType (vector_type v)
vector_sized v p =
    record {
      kind = le-leb v.kind 5 (between_high 4 5 v.kind p.kind);
      rows = p.rows;
      columns = omega arith;
      some = λ h. omega arith;
      none = λ e. absurd (omega (arith, p.some));
    }

-- the element that its refusal names is one of the matrix or, after these, of the bias
module _ (t : MatrixType) (memory : ℕ) (v : VectorStep) (p : VectorParts v) where
  abbrev Among : Stop → Type 0
  Among s = s.element ≤ matrix_places + side_places

  memory_element : Among (memory_refusal v memory)
  unfolding memory_refusal
  memory_element =
      pick_case Among (ltb (first_outside v memory) (elements_of v)) _ _
      (λ e. let l : first_outside v memory < elements_of v = ltb-true _ _ e in omega (arith, elements_most v, sides v.rows v.columns p.rows p.columns, p.rows))
      (λ e. zero-le)

  pub vector_element : (vector_refusal t memory v).element ≤ matrix_places + side_places
  unfolding vector_refusal
  vector_element =
      pick_case Among (is_empty t) _ _ (λ e. zero-le)
      (λ e. pick_case Among (input_agrees t v) _ _ (λ f. memory_element) (λ f. zero-le))
