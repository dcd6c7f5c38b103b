-- The tape of a sheet for a memory of a length, as document 01 describes it.
use Rattle.std.specs.Prelude.{ℕ, suc, ◌+◌, ◌≡◌, List, [], ◌++◌, true, false, ℤ}
use Rattle.sheet_ranges.specs.Steps.{the_step}
use Rattle.sheet.specs.declared.Object.{Object}
use Rattle.sheet.specs.declared.Tensors.{Tensors}
use Rattle.sheet.specs.declared.Sheet.{Sheet}
use Rattle.sheet.specs.declared.Step.{Step}
use Rattle.sheet.specs.declared.Step.TheVariants as step
use Rattle.registers.specs.declared.MatrixType.{MatrixType}
use Rattle.registers.specs.Types.{the_type}
use Rattle.registers.specs.Registers.{empty_registers}
use Rattle.addressing.specs.declared.Access.{Access}
use Rattle.checking.specs.Steps.{access_of, object_register, checked_step}
use Rattle.records.specs.Records.{tape_numbers, record_numbers}
use Rattle.records.specs.declared.Record.TheVariants.{Whole}
use Rattle.runs.specs.Even.{Stretch}
use Rattle.runs.specs.RunRecords.{run_numbers}
use Rattle.access_tapes.specs.Given.{AccessGiven}
use Rattle.translating.specs.Tapes.{object_records}

-- the runs of a load or a store, as numbers
pub record AccessNumbers (a : Access) (register : ℕ) (xs : List ℤ) : Type 0 where
  pub runs : List Stretch
  pub given : AccessGiven a runs
  pub same : xs ≡ run_numbers a.load register runs

-- its object's record, none where the register stands as it is, and then the runs
pub record LoadNumbers (a : Access) (register : ℕ) (object : Object) (t : MatrixType) (xs : List ℤ) : Type 0 where
  pub rest : List ℤ
  pub moves : AccessNumbers a register rest
  pub same : xs ≡ tape_numbers (object_records register object t) ++ rest

-- step k, at the types that the steps before left: a whole step becomes one op 4; a load becomes its object's
-- record and its runs, a store its runs
abbrev pub StepNumbers : Tensors → List MatrixType → ℕ → ℕ → Step → List ℤ → Type 0
StepNumbers tensors ts len k step.Nothing xs = xs ≡ []
StepNumbers tensors ts len k (step.Whole whole) xs = xs ≡ record_numbers (Whole k)
StepNumbers tensors ts len k (step.Load register object window) xs =
    let t = the_type ts (object_register register object) in
    LoadNumbers (access_of tensors true window t len) register object t xs
StepNumbers tensors ts len k (step.Store register window) xs = AccessNumbers (access_of tensors false window (the_type ts register) len) register xs

-- n steps more, the next of which is number k
pub data NumbersFrom (sh : Sheet) (len : ℕ) : ℕ → ℕ → List MatrixType → List ℤ → Type 0 where
  none : {k : ℕ} {ts : List MatrixType} → NumbersFrom sh len 0 k ts []
  more : {n k : ℕ} {ts : List MatrixType} (xs ys : List ℤ)
      → StepNumbers sh.tensors ts len k (the_step sh.step k) xs
      → NumbersFrom sh len n (k + 1) (checked_step sh.edition sh.tensors ts len (the_step sh.step k)).types ys
      → NumbersFrom sh len (suc n) k ts (xs ++ ys)

-- the tape of a sheet that is accepted
abbrev pub GivenTape : Sheet → ℕ → List ℤ → Type 0
GivenTape sh len xs = NumbersFrom sh len sh.steps 0 empty_registers.types xs
