-- What the elements of a sheet's loads and stores give, one thing each, in order.
use Rattle.std.specs.Prelude.{ℕ, true, false, List, [], ◌∷◌, ltb}
use Rattle.numbers.specs.Choice.{pick}
use Rattle.numbers.specs.Lists.{each}
use Rattle.sheet.specs.declared.Tensors.{Tensors}
use Rattle.sheet.specs.declared.Sheet.{Sheet}
use Rattle.sheet.specs.declared.Step.{Step}
use Rattle.sheet.specs.declared.Step.TheVariants.{Nothing, Load, Store, Whole}
use Rattle.sheet_ranges.specs.Steps.{the_step}
use Rattle.registers.specs.Types.{the_type}
use Rattle.registers.specs.declared.MatrixType.{MatrixType}
use Rattle.addressing.specs.Rules.{elements_of}
use Rattle.addressing.specs.declared.Access.{Access}
use Rattle.checking.specs.Steps.{access_of, object_register}
use Rattle.accepted.specs.Passes.{types_at, pass}

-- f of an access and of an element's number, for each element of a load or a store
unfoldable pub of_access : {A : Type 0} → (Access → ℕ → A) → Access → List A
of_access f a = each (elements_of a) (λ (e : ℕ). f a e ∷ [])

-- the same where f goes by the step's number too. Step k, at the types that the steps before left: a load has the elements of its object's matrix, a store those of its register's, another step none
unfoldable pub of_step : {A : Type 0} → (ℕ → Access → ℕ → A) → Tensors → List MatrixType → ℕ → ℕ → Step → List A
of_step f tensors ts len k Nothing = []
of_step f tensors ts len k (Load register object window) =
    of_access (f k) (access_of tensors true window (the_type ts (object_register register object)) len)
of_step f tensors ts len k (Store register window) = of_access (f k) (access_of tensors false window (the_type ts register) len)
of_step f tensors ts len k (Whole whole) = []

-- the same as a pass over the steps of a sheet takes it
abbrev pub of_turn : {A : Type 0} → (ℕ → Access → ℕ → A) → Sheet → ℕ → List MatrixType → ℕ → Step → List A
of_turn f sh len ts k step = of_step f sh.tensors ts len k step

-- the steps in order
abbrev pub of_sheet : {A : Type 0} → (ℕ → Access → ℕ → A) → Sheet → ℕ → List A
of_sheet f sh len = pass (of_turn f sh len) sh len

-- those of step k alone; a step past the last has none
unfoldable pub at_step : {A : Type 0} → (ℕ → Access → ℕ → A) → Sheet → ℕ → ℕ → List A
at_step f sh len k = pick (ltb k sh.steps) (of_turn f sh len (types_at sh len k) k (the_step sh.step k)) []
