-- A whole step changes no register but its result.
use Rattle.std.specs.Prelude.{◌≡◌, ◌≢◌, List, ℕ, ◌<◌}
use Rattle.std.proofs.Common.{get_or-set_other}
use Rattle.sheet.specs.Sizes.{matrix_places}
use Rattle.sheet.specs.declared.WholeStep.{WholeStep}
use Rattle.registers.specs.Types.{no_type, the_type}
use Rattle.registers.specs.Registers.{element_of}
use Rattle.registers.specs.Laws.Registers.{others_kept}
use Rattle.registers.specs.declared.MatrixType.{MatrixType}
use Rattle.whole_steps.specs.Whole.{whole_result, whole_types, whole_elements}

-- another register keeps its type
pub other_types : (ts : List MatrixType) (w : WholeStep) (q : ℕ) → q ≢ whole_result w → the_type (whole_types ts w) q ≡ the_type ts q
other_types ts w q d = get_or-set_other ts (whole_result w) q _ no_type d

-- and its elements
pub other_elements : (ts : List MatrixType) (es memory : List ℕ) (w : WholeStep) (q e : ℕ) → q ≢ whole_result w → e < matrix_places → element_of (whole_elements ts es memory w) q e ≡ element_of es q e
other_elements ts es memory w q e d h = others_kept es (whole_result w) _ q e d h
