-- How the code comes to a step's records: by the step and the access of its elements.
use Rattle.std.specs.Prelude.{ℕ, ◌+◌, ◌≡◌, List, [], ◌∷◌, ◌++◌}
use Rattle.sheet.specs.Sizes.{matrix_places}
use Rattle.sheet.specs.declared.Tensors.{Tensors}
use Rattle.sheet.specs.declared.Step.{Step}
use Rattle.sheet.specs.declared.Step.TheVariants as step
use Rattle.sheet.specs.declared.Step.TheVariants.{Nothing, Load, Store}
use Rattle.registers.specs.declared.MatrixType.{MatrixType}
use Rattle.addressing.specs.declared.Access.{Access}
use Rattle.checking.specs.Turns.{step_access}
use Rattle.accepted.specs.Accepted.{ClearStep}
use Rattle.records.specs.declared.Record.{Record}
use Rattle.records.specs.declared.Record.TheVariants.{Whole}
use Rattle.access_tapes.specs.Accesses.{access_records}
use Rattle.translating.specs.Tapes.{object_records}

-- a matrix with the elements of an access
abbrev pub matrix_of : Access → MatrixType
matrix_of a = record { kind = 0; rows = a.rows; columns = a.columns }

-- the record of step k that is none of its runs
abbrev pub apart_records : ℕ → Step → Access → List Record
apart_records k Nothing a = []
apart_records k (Load register object window) a = object_records register object (matrix_of a)
apart_records k (Store register window) a = []
apart_records k (step.Whole whole) a = Whole k ∷ []

-- the register of its runs
abbrev pub moved_register : Step → ℕ
moved_register Nothing = 0
moved_register (Load register object window) = register
moved_register (Store register window) = register
moved_register (step.Whole whole) = 0

-- its records
abbrev pub turn_records : ℕ → Step → Access → List Record
turn_records k st a = apart_records k st a ++ access_records a (moved_register st)

-- the most of them: one, and a run for each element
abbrev pub records_most : ℕ
records_most = matrix_places + 1

-- a step that is accepted, and its access
pub record ClearTurn (st : Step) (a : Access) : Type 0 where
  pub tensors : Tensors
  pub types : List MatrixType
  pub memory : ℕ
  pub clear : ClearStep tensors types memory st
  pub access : a ≡ step_access tensors types memory st
