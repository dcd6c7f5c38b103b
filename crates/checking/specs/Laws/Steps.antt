-- What the check of a step tells.
use Rattle.std.specs.Prelude.{◌≡◌, refl, true, false, List, ℕ, ◌≤◌, eqb, length}
use Rattle.std.proofs.Common.{ap, arith, eq-eqb, length-set}
use Rattle.numbers.specs.Choice.{pick}
use Rattle.numbers.specs.Laws.Choice.{pick_case}
use Rattle.refusals.specs.declared.Stop.{Stop}
use Rattle.sheet_ranges.specs.Steps.{step_ok}
use Rattle.sheet.specs.declared.Tensors.{Tensors}
use Rattle.sheet.specs.declared.Step.{Step}
use Rattle.sheet.specs.declared.Step.TheVariants.{Nothing, Load, Store, Whole}
use Rattle.registers.specs.Types.{the_type, is_empty, with_type}
use Rattle.sheet.specs.Sizes.{matrix_places}
use Rattle.registers.specs.Sized.{Sized}
use Rattle.registers.specs.Laws.Sized.{sized_with, sized_places}
use Rattle.registers.specs.declared.MatrixType.{MatrixType}
use Rattle.whole_steps.specs.Whole.{whole_result}
use Rattle.whole_steps.proofs.Laws.Within.{whole_ok_lem, sized_whole}
use Rattle.addressing.specs.Rules.{elements_of}
use Rattle.addressing.specs.declared.Access.{Access}
use Rattle.addressing.specs.declared.Located.{Located}
use Rattle.accesses.specs.Refusals.{checked_access, element_outcome, placed_count}
use Rattle.accesses.specs.Refusals as accesses
use Rattle.accesses.proofs.Laws.Accepted.{placed_most}
use Rattle.checking.specs.Steps.{access_of, object_register, access_check, checked_step, step_types}
use Rattle.checking.specs.Laws.Accesses.{access_moved, access_clear}
use Rattle.checking.specs.declared.StepCheck.{StepCheck}

moved_types : (before after : List MatrixType) (t : MatrixType) (a : Access) → (access_check before after t a).stop.number ≡ 0 → (access_check before after t a).types ≡ after
moved_types before after t a h =
    ap (λ (c : StepCheck). c.types) (access_moved before after t a (access_clear before after t a h).filled)

-- a step that is not refused leaves its types
pub check_types : (edition : ℕ) (tensors : Tensors) (ts : List MatrixType) (len : ℕ) (step : Step)
    → (checked_step edition tensors ts len step).stop.number ≡ 0 → (checked_step edition tensors ts len step).types ≡ step_types ts step
unfolding checked_step
check_types edition tensors ts len Nothing h = refl
check_types edition tensors ts len (Load register object window) h =
    let t = the_type ts (object_register register object) in
    moved_types ts (with_type ts register t) t (access_of tensors true window t len) h
check_types edition tensors ts len (Store register window) h =
    let t = the_type ts register in
    moved_types ts ts t (access_of tensors false window t len) h
check_types edition tensors ts len (Whole whole) h = refl

-- The types that the check of a step within Sizes leaves keep to Sizes, and are as many.
pub check_sized : (edition : ℕ) (tensors : Tensors) (ts : List MatrixType) (len : ℕ) (step : Step) (edition' layouts views : ℕ)
    → step_ok edition' layouts views step ≡ true → Sized ts → Sized (checked_step edition tensors ts len step).types
unfolding checked_step access_check
check_sized edition tensors ts len Nothing edition' layouts views ok s = s
check_sized edition tensors ts len (Load register object window) edition' layouts views ok s =
    let t = the_type ts (object_register register object) in
    pick_case (λ (c : StepCheck). Sized c.types) (is_empty t) _ _ (λ e. s) (λ e. sized_with ts register t s (s.each (object_register register object)))
check_sized edition tensors ts len (Store register window) edition' layouts views ok s =
    pick_case (λ (c : StepCheck). Sized c.types) (is_empty (the_type ts register)) _ _ (λ e. s) (λ e. s)
check_sized edition tensors ts len (Whole whole) edition' layouts views ok s = sized_whole ts whole s (whole_ok_lem edition' whole ok)

pub check_registers : (edition : ℕ) (tensors : Tensors) (ts : List MatrixType) (len : ℕ) (step : Step) → length (checked_step edition tensors ts len step).types ≡ length ts
unfolding checked_step access_check
check_registers edition tensors ts len Nothing = refl
check_registers edition tensors ts len (Load register object window) =
    pick_case (λ (c : StepCheck). length c.types ≡ length ts) (is_empty (the_type ts (object_register register object))) _ _ (λ e. refl) (λ e. length-set ts register _)
check_registers edition tensors ts len (Store register window) =
    pick_case (λ (c : StepCheck). length c.types ≡ length ts) (is_empty (the_type ts register)) _ _ (λ e. refl) (λ e. refl)
check_registers edition tensors ts len (Whole whole) = length-set ts (whole_result whole) _

checked_most : (f : ℕ → Located) (n : ℕ) (s : Stop) → (accesses.checked_elements f n s).placed ≤ n
unfolding accesses.checked_elements
checked_most f n s = pick_case (λ (x : ℕ). x ≤ n) (eqb s.number 0) (placed_count f n) 0 (λ e. placed_most f n) (λ e. omega arith)

moved_most : (before after : List MatrixType) (t : MatrixType) (a : Access) → elements_of a ≤ matrix_places → (access_check before after t a).placed ≤ matrix_places
unfolding access_check
moved_most before after t a s =
    pick_case (λ (c : StepCheck). c.placed ≤ matrix_places) (is_empty t) _ _ (λ e. omega arith)
    (λ e. omega (arith, s, checked_most (element_outcome a) (elements_of a) (accesses.access_refusal a)))

-- A step has at most a register's elements with a byte.
pub step_placed : (edition : ℕ) (tensors : Tensors) (ts : List MatrixType) (len : ℕ) (step : Step) → Sized ts → (checked_step edition tensors ts len step).placed ≤ matrix_places
unfolding checked_step
step_placed edition tensors ts len Nothing s = omega arith
step_placed edition tensors ts len (Load register object window) s =
    let t = the_type ts (object_register register object) in
    moved_most ts (with_type ts register t) t (access_of tensors true window t len) (sized_places t (s.each (object_register register object)))
step_placed edition tensors ts len (Store register window) s =
    let t = the_type ts register in
    moved_most ts ts t (access_of tensors false window t len) (sized_places t (s.each register))
step_placed edition tensors ts len (Whole whole) s = omega arith

-- an access that is not refused has placed what it counts
pub access_placed : (a : Access) → (checked_access a).stop.number ≡ 0 → (checked_access a).placed ≡ placed_count (element_outcome a) (elements_of a)
unfolding accesses.checked_elements pick
access_placed a h = rw (eq-eqb (accesses.access_refusal a).number 0 h)
