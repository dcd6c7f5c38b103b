-- A whole step that is not refused leaves elements that fit.
use Rattle.std.specs.Prelude.{◌≡◌, List, ℕ, ◌^◌, ◌<◌, length}
use borrow.Author.Tests.{ltb-true}
use Rattle.kinds.specs.Widths.{width, fits}
use Rattle.sheet.specs.Sizes.{register_count, element_places}
use Rattle.sheet.specs.declared.WholeStep.{WholeStep}
use Rattle.sheet.specs.declared.WholeStep.TheVariants.{Fill, Reduce, Transpose, MultiplyAdd, Vector}
use Rattle.registers.specs.Types.{the_type}
use Rattle.registers.specs.Sized.{Sized}
use Rattle.registers.specs.Fits.{Fit}
use Rattle.registers.specs.Laws.Grids.{row_end}
use Rattle.registers.specs.Laws.Fits.{fit_made}
use Rattle.registers.specs.declared.MatrixType.{MatrixType}
use Rattle.reduces.proofs.Laws.Fits.{reduced_fits}
use Rattle.products.specs.Laws.Shapes.{agreed}
use Rattle.products.specs.Laws.Fits.{multiplied_fits}
use Rattle.vectors.proofs.Laws.Fits.{vector_fits}
use Rattle.whole_steps.specs.Refusals.{whole_refusal}
use Rattle.whole_steps.specs.Whole.{whole_result, whole_type, whole_element, whole_types, whole_elements}
use Rattle.whole_steps.specs.Within.{WholeParts, WholeOk}
use Rattle.whole_steps.proofs.Laws.Within.{sized_type}

module _ (edition : ℕ) (ts : List MatrixType) (es memory : List ℕ) (s : Sized ts) (f : Fit ts es) where
  -- each element of the matrix that is made is raw bits of its kind
  element_fits : (w : WholeStep) → WholeParts w → (whole_refusal edition ts (length memory) w).number ≡ 0
      → (i j : ℕ) → i < (whole_type ts w).rows → j < (whole_type ts w).columns → whole_element ts es memory w i j < 2 ^ width (whole_type ts w).kind
  unfolding fits
  element_fits (Fill register rows columns kind value) p e i j h l = ltb-true _ _ p.3
  element_fits (Reduce result source rows columns mode combine) p e i j h l =
      reduced_fits es source (the_type ts source) rows columns mode combine (s.each source) e (f.each source p.0) i j h l
  element_fits (Transpose result source) p e i j h l =
      let t = the_type ts source in
      (f.each source p).inside _ (row_end j t.rows t.columns i l h)
  element_fits (MultiplyAdd result a b c) p e i j h l =
      multiplied_fits es a (the_type ts a) b (the_type ts b) c (the_type ts c) (agreed (the_type ts a) (the_type ts b) (the_type ts c) e) i j
  element_fits (Vector v) p e i j h l = vector_fits es (the_type ts v.input).kind memory v p i j

  pub whole_fits : length ts ≡ register_count → length es ≡ element_places → (w : WholeStep) → WholeOk w
      → (whole_refusal edition ts (length memory) w).number ≡ 0 → Fit (whole_types ts w) (whole_elements ts es memory w)
  whole_fits p q w ok e =
      fit_made ts es (whole_result w) (whole_type ts w) (whole_element ts es memory w) p q s (sized_type ts w s ok.parts) f
      (element_fits w ok.parts e)
