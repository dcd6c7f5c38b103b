-- There is one list of numbers that document 01 describes as the tape of a sheet: the one that is written.
use Prim.Native.Nat.{ℕ, zero, suc, ◌+◌}
use Rattle.std.specs.Prelude.{◌≡◌, ℤ}
use Rattle.std.proofs.Math.Path.{refl, sym, ap, ap₂}
use Rattle.std.proofs.Common.{◌∙◌}
use Rattle.std.proofs.Math.Bool.{true, false}
use mathlib.Core.List.{List, ◌++◌}
use Rattle.sheet_ranges.specs.Steps.{the_step}
use Rattle.sheet.specs.declared.Tensors.{Tensors}
use Rattle.sheet.specs.declared.Sheet.{Sheet}
use Rattle.sheet.specs.declared.Step.{Step}
use Rattle.sheet.specs.declared.Step.TheVariants as step
use Rattle.registers.specs.Types.{the_type}
use Rattle.registers.specs.Registers.{empty_registers}
use Rattle.registers.specs.declared.MatrixType.{MatrixType}
use Rattle.addressing.specs.declared.Access.{Access}
use Rattle.checking.specs.Steps.{access_of, object_register, checked_step}
use Rattle.accepted.specs.Passes.{pass_from}
use Rattle.records.specs.Records.{tape_numbers}
use Rattle.records.specs.Laws.Records.{tape_append}
use Rattle.runs.proofs.Theorems.Unique.{stretches}
use Rattle.access_tapes.specs.Accesses.{access_records}
use Rattle.access_tapes.specs.Theorems.{access_runs, access_given, access_numbers}
use Rattle.translating.specs.Tapes.{object_records, step_records, tape_from, tape_of}
use Rattle.translating.specs.GivenTape.{AccessNumbers, StepNumbers, NumbersFrom, none, more, GivenTape}

-- ---- there is one

module _ (a : Access) (register : ℕ) where
  access_one : AccessNumbers a register (tape_numbers (access_records a register))
  access_one =
      let given = access_given a in
      record { runs = stretches (access_runs a); given = given; same = access_numbers a register (stretches (access_runs a)) given }

  access_only : {xs : List ℤ} → AccessNumbers a register xs → xs ≡ tape_numbers (access_records a register)
  access_only h = h.same ∙ sym (access_numbers a register h.runs h.given)

module _ (tensors : Tensors) (ts : List MatrixType) (len k : ℕ) where
  step_one : (step : Step) → StepNumbers tensors ts len k step (tape_numbers (step_records tensors ts len k step))
  unfolding step_records
  step_one step.Nothing = refl
  step_one (step.Whole whole) = refl
  step_one (step.Load register object window) =
      let t = the_type ts (object_register register object) in
      let a = access_of tensors true window t len in
      record {
        rest = tape_numbers (access_records a register);
        moves = access_one a register;
        same = tape_append (object_records register object t) (access_records a register);
      }
  step_one (step.Store register window) = access_one (access_of tensors false window (the_type ts register) len) register

  step_only : (step : Step) {xs : List ℤ} → StepNumbers tensors ts len k step xs → xs ≡ tape_numbers (step_records tensors ts len k step)
  unfolding step_records
  step_only step.Nothing h = h
  step_only (step.Whole whole) h = h
  step_only (step.Load register object window) h =
      let t = the_type ts (object_register register object) in
      let a = access_of tensors true window t len in
      h.same
      ∙ ap (λ (l : List ℤ). tape_numbers (object_records register object t) ++ l) (access_only a register h.moves)
      ∙ sym (tape_append (object_records register object t) (access_records a register))
  step_only (step.Store register window) h = access_only (access_of tensors false window (the_type ts register) len) register h

module _ (sh : Sheet) (len : ℕ) where
  from_one : (n k : ℕ) (ts : List MatrixType) → NumbersFrom sh len n k ts (tape_numbers (tape_from n sh len k ts))
  unfolding pass_from
  from_one zero k ts = none
  from_one (suc n) k ts =
      let step = the_step sh.step k in
      let next = (checked_step sh.edition sh.tensors ts len step).types in
      rw (tape_append (step_records sh.tensors ts len k step) (tape_from n sh len (k + 1) next))
      (more (tape_numbers (step_records sh.tensors ts len k step)) (tape_numbers (tape_from n sh len (k + 1) next)) (step_one sh.tensors ts len k step) (from_one n (k + 1) next))

  from_only : {n k : ℕ} {ts : List MatrixType} {xs : List ℤ} → NumbersFrom sh len n k ts xs → xs ≡ tape_numbers (tape_from n sh len k ts)
  unfolding pass_from
  from_only none = refl
  from_only (more {n = n} {k = k} {ts = ts} xs ys h hs) =
      let step = the_step sh.step k in
      let next = (checked_step sh.edition sh.tensors ts len step).types in
      ap₂ (λ (a b : List ℤ). a ++ b) (step_only sh.tensors ts len k step h) (from_only hs)
      ∙ sym (tape_append (step_records sh.tensors ts len k step) (tape_from n sh len (k + 1) next))

  -- the numbers of a sheet's records are such a tape, and no others are
  pub tape_given : GivenTape sh len (tape_numbers (tape_of sh len))
  unfolding tape_of
  tape_given = from_one sh.steps 0 empty_registers.types

  pub tape_only : (xs : List ℤ) → GivenTape sh len xs → xs ≡ tape_numbers (tape_of sh len)
  unfolding tape_of
  tape_only xs h = from_only h
