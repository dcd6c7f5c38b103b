-- A load or a store has its matrix's elements, a sheet within Sizes has few, and those of one step alone.
use Prim.Native.Nat.{ℕ, zero, suc, ◌+◌, ◌*◌, ◌<◌, ◌≤◌}
use Rattle.std.specs.Prelude.{◌≡◌, List, [], length, get_or}
use Rattle.std.proofs.Math.Path.{refl}
use Rattle.std.proofs.Common.{◌∙◌, lt-ltb, le-ltb}
use Rattle.std.proofs.Math.Bool.{true, false}
use native.Mathlib.Omega.{arith}
use Rattle.std.proofs.Math.ListN.{length-append}
use Rattle.numbers.specs.Choice.{pick}
use Rattle.numbers.specs.Laws.Joins.{length_each, each_at}
use Rattle.sheet.specs.Sizes.{step_places, matrix_places}
use Rattle.sheet.specs.declared.Tensors.{Tensors}
use Rattle.sheet.specs.declared.Sheet.{Sheet}
use Rattle.sheet.specs.declared.Step.{Step}
use Rattle.sheet.specs.declared.Step.TheVariants.{Nothing, Load, Store, Whole}
use Rattle.sheet_ranges.specs.Steps.{the_step}
use Rattle.sheet_ranges.specs.Laws.Within.{Within, within_places}
use Rattle.registers.specs.Types.{the_type}
use Rattle.registers.specs.Registers.{empty_registers}
use Rattle.registers.specs.Sized.{Sized}
use Rattle.registers.specs.Laws.Sized.{sized_empty, sized_places}
use Rattle.registers.specs.declared.MatrixType.{MatrixType}
use Rattle.addressing.specs.Rules.{elements_of}
use Rattle.addressing.specs.declared.Access.{Access}
use Rattle.checking.specs.Steps.{access_of, object_register, checked_step}
use Rattle.checking.specs.Laws.Steps.{check_sized}
use Rattle.checking.specs.Laws.Turns.{within_step}
use Rattle.accepted.specs.Passes.{types_at, pass_from}
use Rattle.accepted.specs.Elements.{of_access, of_step, of_turn, of_sheet, at_step}

pub access_count : {A : Type 0} (f : Access → ℕ → A) (a : Access) → length (of_access f a) ≡ elements_of a
unfolding of_access
access_count f a = length_each 1 (elements_of a) _ (λ e h. refl) ∙ omega arith

pub access_at : {A : Type 0} (f : Access → ℕ → A) (a : Access) (e : ℕ) (d : A) → e < elements_of a → get_or (of_access f a) e d ≡ f a e
unfolding of_access
access_at f a e d h = each_at (elements_of a) (f a) e d h

module _ {A : Type 0} (f : ℕ → Access → ℕ → A) where
  module _ (sh : Sheet) (len k : ℕ) where
    pub at_step_lem : k < sh.steps → at_step f sh len k ≡ of_turn f sh len (types_at sh len k) k (the_step sh.step k)
    unfolding at_step pick
    at_step_lem h = rw (lt-ltb k sh.steps h) refl

    pub at_past : sh.steps ≤ k → at_step f sh len k ≡ []
    unfolding at_step pick
    at_past h = rw (le-ltb k sh.steps h) refl

  pub step_few : (tensors : Tensors) (ts : List MatrixType) (len k : ℕ) (step : Step) → Sized ts → length (of_step f tensors ts len k step) ≤ matrix_places
  unfolding of_step
  step_few tensors ts len k Nothing s = omega arith
  step_few tensors ts len k (Load register object window) s =
      let t = the_type ts (object_register register object) in
      omega (arith, access_count (f k) (access_of tensors true window t len), sized_places t (s.each (object_register register object)))
  step_few tensors ts len k (Store register window) s =
      let t = the_type ts register in
      omega (arith, access_count (f k) (access_of tensors false window t len), sized_places t (s.each register))
  step_few tensors ts len k (Whole whole) s = omega arith

  module _ (sh : Sheet) (w : Within sh) (len : ℕ) where
    steps_few : (n k : ℕ) (ts : List MatrixType) → k + n ≤ sh.steps → Sized ts → length (pass_from (of_turn f sh len) n sh len k ts) ≤ n * matrix_places
    unfolding pass_from
    steps_few zero k ts l s = omega arith
    steps_few (suc n) k ts l s =
        let step = the_step sh.step k in
        let after = (checked_step sh.edition sh.tensors ts len step).types in
        let sized = check_sized sh.edition sh.tensors ts len step sh.edition sh.tensors.layouts sh.tensors.views (within_step sh w k (omega arith)) s in
        let both = length-append (of_step f sh.tensors ts len k step) (pass_from (of_turn f sh len) n sh len (k + 1) after) in
        omega (arith, both, step_few sh.tensors ts len k step s, steps_few n (k + 1) after (omega arith) sized)

    pub sheet_few : length (of_sheet f sh len) ≤ step_places * matrix_places
    sheet_few = omega (arith, steps_few sh.steps 0 empty_registers.types (omega arith) sized_empty, within_places w)
