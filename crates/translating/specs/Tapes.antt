-- The tape of a sheet for a memory of a length: the list of records that document 01 gives.
use Rattle.std.specs.Prelude.{ℕ, ◌*◌, List, [], ◌∷◌, ◌++◌, true, false}
use Rattle.sheet.specs.declared.Object.{Object}
use Rattle.sheet.specs.declared.Object.TheVariants.{Kept, Zeros, Register}
use Rattle.sheet.specs.declared.Tensors.{Tensors}
use Rattle.sheet.specs.declared.Sheet.{Sheet}
use Rattle.sheet.specs.declared.Step.{Step}
use Rattle.sheet.specs.declared.Step.TheVariants as step
use Rattle.sheet.specs.declared.Step.TheVariants.{Nothing, Load, Store}
use Rattle.registers.specs.Types.{the_type}
use Rattle.registers.specs.declared.MatrixType.{MatrixType}
use Rattle.checking.specs.Steps.{access_of, object_register}
use Rattle.accepted.specs.Passes.{pass_from, pass}
use Rattle.records.specs.declared.Record.{Record}
use Rattle.records.specs.declared.Record.TheVariants.{Copy, Fill, Whole}
use Rattle.access_tapes.specs.Accesses.{access_records}

-- the record that gives a load's register its object, of type t: a copy, a fill of 0 over the whole matrix, or none where the register stands
-- as it is
abbrev pub object_records : ℕ → Object → MatrixType → List Record
object_records register Kept t = []
object_records register Zeros t = Fill register 0 (t.rows * t.columns) 0 ∷ []
object_records register (Register object) t = Copy register object ∷ []

-- step k of a sheet, at the types that the steps before left: a load becomes its object's record and its runs, a store its runs, a whole step
-- one op 4
unfoldable pub step_records : Tensors → List MatrixType → ℕ → ℕ → Step → List Record
step_records tensors ts len k Nothing = []
step_records tensors ts len k (Load register object window) =
    let t = the_type ts (object_register register object) in
    object_records register object t ++ access_records (access_of tensors true window t len) register
step_records tensors ts len k (Store register window) = access_records (access_of tensors false window (the_type ts register) len) register
step_records tensors ts len k (step.Whole whole) = Whole k ∷ []

-- the same of a sheet for a memory of a length
abbrev pub sheet_records : Sheet → ℕ → List MatrixType → ℕ → Step → List Record
sheet_records sh len ts k step = step_records sh.tensors ts len k step

-- n steps more, the next of which is number k
abbrev pub tape_from : ℕ → Sheet → ℕ → ℕ → List MatrixType → List Record
tape_from n sh len k ts = pass_from (sheet_records sh len) n sh len k ts

unfoldable pub tape_of : Sheet → ℕ → List Record
tape_of sh len = pass (sheet_records sh len) sh len
