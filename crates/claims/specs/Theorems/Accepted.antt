-- What holds of a sheet that is read or accepted: its vector steps, its count, and the records of its steps.
use Rattle.std.specs.Prelude.{ℕ, zero, suc, ◌+◌, ◌<◌, ◌≤◌, ◌≡◌, refl, true, false, List, eqb, leb, length}
use Rattle.std.proofs.Common.{sym, ap, ◌∙◌, arith, length-append, eqb-true, leb-true, eq-eqb, le-leb}
use Rattle.std.proofs.lemmas.Bool.{eqb-false}
use Rattle.numbers.specs.Choice.{pick}
use Rattle.numbers.specs.Laws.Choice.{by_test, pick_case, both_left}
use Rattle.sheet.specs.Sizes.{matrix_places, memory_limit}
use Rattle.sheet.specs.Editions.{vector_edition}
use Rattle.sheet.specs.declared.Object.{Object}
use Rattle.sheet.specs.declared.Object.TheVariants.{Kept, Zeros, Register}
use Rattle.sheet.specs.declared.Tensors.{Tensors}
use Rattle.sheet.specs.declared.Sheet.{Sheet}
use Rattle.sheet.specs.declared.Step.{Step}
use Rattle.sheet.specs.declared.Step.TheVariants.{Nothing, Load, Store, Whole}
use Rattle.sheet.specs.declared.VectorStep.{VectorStep}
use Rattle.sheet.specs.declared.WholeStep.TheVariants.{Vector}
use Rattle.sheet_ranges.specs.Steps.{the_step, vector_ok}
use Rattle.sheet_ranges.specs.Laws.Within.{Within}
use Rattle.sheet_reader.specs.Reading.{read_sheet}
use Rattle.registers.specs.Types.{the_type}
use Rattle.registers.specs.Sized.{Sized}
use Rattle.registers.specs.Registers.{empty_registers}
use Rattle.registers.specs.Laws.Sized.{sized_places}
use Rattle.registers.specs.declared.MatrixType.{MatrixType}
use Rattle.checking.specs.Steps.{access_of, object_register, checked_step}
use Rattle.checking.specs.Checking.{checked_from, checked, checked_sheet}
use Rattle.checking.specs.Laws.Readable.{sheet_readable}
use Rattle.checking.specs.Laws.Turns.{within_step}
use Rattle.checking.specs.declared.CheckAnswer.{CheckAnswer}
use Rattle.accepted.specs.Passes.{types_at}
use Rattle.carrying.specs.Carrying.{carried}
use Rattle.carrying.specs.Theorems.Counts.{sheet_count}
use Rattle.access_tapes.specs.Laws.Few.{access_few}
use Rattle.access_tapes.specs.Accesses.{access_records}
use Rattle.translating.specs.Tapes.{object_records, step_records, sheet_records}
use Rattle.translating.proofs.Theorems.Masks.{types_sized}

-- ---- vector steps

-- A vector step in a sheet means edition 2 or later.
pub vector_from : (sh : Sheet) → Within sh → (k : ℕ) → k < sh.steps → (v : VectorStep) → the_step sh.step k ≡ Whole (Vector v) → vector_edition ≤ sh.edition
unfolding vector_ok
vector_from sh w k l v e = leb-true vector_edition sh.edition (both_left _ _ (rw e at (within_step sh w k l)))

pub read_vector_from : (s : List ℕ) (len : ℕ) → (checked_sheet s len).refusal.number ≡ 0 → (k : ℕ) → k < (read_sheet s).sheet.steps
    → (v : VectorStep) → the_step (read_sheet s).sheet.step k ≡ Whole (Vector v) → vector_edition ≤ (read_sheet s).sheet.edition
read_vector_from s len fine k l v e = vector_from (read_sheet s).sheet (sheet_readable s len fine).within k l v e

-- ---- counts

-- beside a refusal the check counts nothing
steps_none : (n : ℕ) (sh : Sheet) (len k : ℕ) (ts : List MatrixType) (count : ℕ) → ((checked_from n sh len k ts count).refusal.number ≡ 0 → ⊥)
    → (checked_from n sh len k ts count).count ≡ 0
unfolding checked_from
steps_none zero sh len k ts count h = absurd (h refl)
steps_none (suc n) sh len k ts count h =
    let c = checked_step sh.edition sh.tensors ts len (the_step sh.step k) in
    pick_case (λ (r : CheckAnswer). (r.refusal.number ≡ 0 → ⊥) → r.count ≡ 0) (eqb c.stop.number 0) _ _
    (λ e. steps_none n sh len (k + 1) c.types (count + c.placed)) (λ e g. refl) h

refused_none : (s : List ℕ) (len : ℕ) → ((checked_sheet s len).refusal.number ≡ 0 → ⊥) → (checked_sheet s len).count ≡ 0
unfolding checked_sheet checked
refused_none s len =
    pick_case P (leb len memory_limit) _ _
    (λ l. pick_case P (eqb (read_sheet s).refusal.number 0) _ _
    (λ e. steps_none (read_sheet s).sheet.steps (read_sheet s).sheet len 0 empty_registers.types 0) (λ e h. refl))
    (λ l h. refl)
  where
    P : CheckAnswer → Type 0
    P r = (r.refusal.number ≡ 0 → ⊥) → r.count ≡ 0

-- an accepted sheet's check is that of its steps
accepted_check : (s : List ℕ) (len : ℕ) → (checked_sheet s len).refusal.number ≡ 0 → checked_sheet s len ≡ checked (read_sheet s).sheet len
unfolding checked_sheet pick
accepted_check s len fine =
    let r = sheet_readable s len fine in
    rw (le-leb len memory_limit r.few, eq-eqb (read_sheet s).refusal.number 0 r.read) refl

-- Carrying out counts as many elements with a byte as the check, refused or not.
pub carried_count : (s memory : List ℕ) → (carried s memory).counts.placed ≡ (checked_sheet s (length memory)).count
unfolding carried pick
carried_count s memory =
    by_test (eqb (checked_sheet s (length memory)).refusal.number 0)
    (λ e.
    let fine = eqb-true _ 0 e in
    let r = sheet_readable s (length memory) fine in
    rw e (sheet_count (read_sheet s).sheet r.within memory r.clear ∙ ap (λ (x : CheckAnswer). x.count) (sym (accepted_check s (length memory) fine))))
    (λ e. rw e (sym (refused_none s (length memory) (eqb-false _ 0 e))))

-- ---- the records of a step

object_few : (register : ℕ) (object : Object) (t : MatrixType) → length (object_records register object t) ≤ 1
object_few register Kept t = omega arith
object_few register Zeros t = omega arith
object_few register (Register object) t = omega arith

few : (tensors : Tensors) (ts : List MatrixType) (len k : ℕ) (step : Step) → Sized ts → length (step_records tensors ts len k step) ≤ matrix_places + 1
unfolding step_records
few tensors ts len k Nothing s = omega arith
few tensors ts len k (Load register object window) s =
    let t = the_type ts (object_register register object) in
    let a = access_of tensors true window t len in
    omega (arith, length-append (object_records register object t) (access_records a register), object_few register object t, access_few a register, sized_places t (s.each (object_register register object)))
few tensors ts len k (Store register window) s =
    let t = the_type ts register in
    omega (arith, access_few (access_of tensors false window t len) register, sized_places t (s.each register))
few tensors ts len k (Whole whole) s = omega arith

module _ (sh : Sheet) (w : Within sh) (len : ℕ) where
  -- A step becomes at most 257 records: its object's, and a run for each of 256 elements.
  pub step_few : (k : ℕ) → k < sh.steps → length (sheet_records sh len (types_at sh len k) k (the_step sh.step k)) ≤ 257
  step_few k h = few sh.tensors (types_at sh len k) len k (the_step sh.step k) (types_sized sh w len k (omega arith))
