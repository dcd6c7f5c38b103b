-- How the code comes to a step: with the access of its elements, which a step that is no load and no store has none of.
use Rattle.std.specs.Prelude.{ℕ, ◌≤◌, ◌≡◌, true, false, List}
use Rattle.sheet.specs.Sizes.{memory_limit}
use Rattle.sheet.specs.declared.Tensors.{Tensors}
use Rattle.sheet.specs.declared.Step.{Step}
use Rattle.sheet.specs.declared.Step.TheVariants.{Nothing, Load, Store, Whole}
use Rattle.tensor_ranges.specs.Layouts.{no_layout}
use Rattle.tensor_ranges.specs.Views.{no_view}
use Rattle.sheet_ranges.specs.Steps.{the_step, step_ok}
use Rattle.sheet_ranges.specs.Laws.Within.{TensorsWithin}
use Rattle.sheet_reader.specs.Parts.{sheet_of}
use Rattle.registers.specs.Types.{the_type}
use Rattle.registers.specs.Sized.{Sized}
use Rattle.registers.specs.declared.MatrixType.{MatrixType}
use Rattle.addressing.specs.declared.Access.{Access}
use Rattle.checking.specs.Steps.{access_of, object_register}
use Rattle.checking.specs.declared.turns.Turn.{Turn}

abbrev pub no_access : Access
no_access = record { load = false; layout = no_layout; viewed = false; view = no_view; base = 0; size = 0; memory = 0; rows = 0; columns = 0 }

-- the access of a step's elements, at the types that the steps before left
abbrev pub step_access : Tensors → List MatrixType → ℕ → Step → Access
step_access tensors ts len Nothing = no_access
step_access tensors ts len (Load register object window) = access_of tensors true window (the_type ts (object_register register object)) len
step_access tensors ts len (Store register window) = access_of tensors false window (the_type ts register) len
step_access tensors ts len (Whole whole) = no_access

-- step k of the sheet that bytes read as, and its access
pub record Met (s : List ℕ) (ts : List MatrixType) (len k : ℕ) (t : Turn) : Type 0 where
  pub step : t.step ≡ the_step (sheet_of s).step k
  pub access : t.access ≡ step_access (sheet_of s).tensors ts len (the_step (sheet_of s).step k)

-- a step within Sizes and its access, at types within Sizes
pub record Turned (edition : ℕ) (tensors : Tensors) (ts : List MatrixType) (len : ℕ) (step : Step) (a : Access) : Type 0 where
  pub within : TensorsWithin tensors
  pub memory : len ≤ memory_limit
  pub sized : Sized ts
  pub ok : step_ok edition tensors.layouts tensors.views step ≡ true
  pub access : a ≡ step_access tensors ts len step
