-- The masks of a sheet for a memory of a length, as request T-04 gives them.
use Rattle.std.specs.Prelude.{ℕ, List}
use Rattle.outcomes.specs.declared.Outcome.{Outcome}
use Rattle.sheet.specs.Sizes.{step_places}
use Rattle.sheet.specs.declared.Tensors.{Tensors}
use Rattle.sheet.specs.declared.Sheet.{Sheet}
use Rattle.sheet.specs.declared.Step.{Step}
use Rattle.registers.specs.declared.MatrixType.{MatrixType}
use Rattle.transfers.specs.Transfers.{outcome_of}
use Rattle.accepted.specs.Elements.{of_step, at_step}
use Rattle.masks.specs.Masks.{masks_of}

-- the outcomes of a step's elements, at the types that the steps before left; a step that is no load or store has none
abbrev pub step_outcomes : Tensors → List MatrixType → ℕ → ℕ → Step → List Outcome
step_outcomes tensors ts len k step = of_step (λ (n : ℕ). outcome_of) tensors ts len k step

-- those of step k of a sheet; a step past the last has none
abbrev pub sheet_outcomes : Sheet → ℕ → ℕ → List Outcome
sheet_outcomes sh len k = at_step (λ (n : ℕ). outcome_of) sh len k

-- the masks of all 32 steps
unfoldable pub sheet_masks : Sheet → ℕ → List ℕ
sheet_masks sh len = masks_of (sheet_outcomes sh len) step_places
