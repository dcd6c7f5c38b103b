-- Request T-06: what becomes of an element of a load or a store, and beside it the first dimension in which it is not inside.
use Rattle.std.specs.Prelude.{ℕ, ◌/◌, ◌%◌, List}
use Rattle.outcomes.specs.declared.Outside.{Outside}
use Rattle.outcomes.specs.declared.Outside.TheVariants.{Nowhere}
use Rattle.outcomes.specs.declared.Explained.{Explained}
use Rattle.sheet.specs.declared.Layout.{Layout}
use Rattle.sheet.specs.declared.Tensors.{Tensors}
use Rattle.sheet.specs.declared.Sheet.{Sheet}
use Rattle.sheet.specs.declared.Step.{Step}
use Rattle.registers.specs.declared.MatrixType.{MatrixType}
use Rattle.spans.specs.Spans.{span_coordinates}
use Rattle.clamps.specs.Sides.{first_outside}
use Rattle.addressing.specs.Rules.{indexed}
use Rattle.addressing.specs.declared.Access.{Access}
use Rattle.addressing.specs.declared.Indexed.{Indexed}
use Rattle.addressing.specs.declared.Indexed.TheVariants.{Skipped, Index}
use Rattle.transfers.specs.Transfers.{outcome_of}
use Rattle.accepted.specs.Elements.{of_step, at_step}

-- for what rules 1 and 2 give: a skipped element has none
abbrev pub outside_at : Layout → Indexed → Outside
outside_at l Skipped = Nowhere
outside_at l (Index i) = first_outside l (span_coordinates l i)

-- element e of a load or a store
unfoldable pub outside_of : Access → ℕ → Outside
outside_of a e = outside_at a.layout (indexed a (e / a.columns) (e % a.columns))

-- it stands beside the outcome
abbrev pub explained : Access → ℕ → Explained
explained a e = record { outcome = outcome_of a e; outside = outside_of a e }

-- the elements of a step, at the types that the steps before left
abbrev pub step_explained : Tensors → List MatrixType → ℕ → ℕ → Step → List Explained
step_explained tensors ts len k step = of_step (λ (n : ℕ). explained) tensors ts len k step

-- those of step k of a sheet; a step past the last has none
abbrev pub sheet_explained : Sheet → ℕ → ℕ → List Explained
sheet_explained sh len k = at_step (λ (n : ℕ). explained) sh len k
