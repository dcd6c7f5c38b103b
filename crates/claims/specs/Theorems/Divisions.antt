-- The count of an accepted sheet is the total, over the elements of its loads and stores, of the dimensions whose span is above 1 while the index isn't 0.
use Prim.Native.Nat.{ℕ, zero, suc, ◌+◌, ◌*◌, ◌/◌, ◌%◌, ◌^◌, ◌<◌, ◌≤◌}
use Rattle.std.specs.Prelude.{◌≡◌, true}
use Rattle.std.proofs.Math.Path.{refl, ap, ap₂}
use Rattle.std.proofs.Common.{sym, ◌∙◌, zero-mul, arith}
use mathlib.Core.List.{List, [], ◌∷◌, ◌++◌}
use Rattle.numbers.specs.Laws.Choice.{by_place}
use Rattle.numbers.specs.Laws.Joins.{each_same}
use Rattle.refusals.specs.Refusals.{not_refused}
use Rattle.sheet.specs.Sizes.{memory_limit}
use Rattle.sheet.specs.declared.Layout.{Layout}
use Rattle.sheet.specs.declared.Tensors.{Tensors}
use Rattle.sheet.specs.declared.Sheet.{Sheet}
use Rattle.sheet.specs.declared.Step.{Step}
use Rattle.tensor_ranges.specs.Layouts.{layout_ok}
use Rattle.sheet_ranges.specs.Steps.{the_step}
use Rattle.sheet_ranges.specs.Laws.Within.{Within}
use Rattle.sheet_reader.specs.Reading.{read_sheet}
use Rattle.registers.specs.Registers.{empty_registers}
use Rattle.registers.specs.Sized.{Sized}
use Rattle.registers.specs.Laws.Sized.{sized_empty}
use Rattle.registers.specs.declared.MatrixType.{MatrixType}
use Rattle.addressing.specs.Rules.{elements_of, indexed}
use Rattle.addressing.specs.declared.Access.{Access}
use Rattle.addressing.specs.declared.Indexed.{Indexed}
use Rattle.addressing.specs.declared.Indexed.TheVariants.{Skipped, Index}
use Rattle.checking.specs.Steps.{checked_step}
use Rattle.checking.specs.Turns.{step_access}
use Rattle.checking.specs.Checking.{checked_from, checked, checked_sheet}
use Rattle.checking.specs.Laws.Readable.{sheet_readable}
use Rattle.checking.specs.Laws.Steps.{check_sized}
use Rattle.checking.specs.Laws.Turns.{first_clear, rest_clear, within_step}
use Rattle.checking.specs.declared.CheckAnswer.{CheckAnswer}
use Rattle.accepted.specs.Accepted.{ClearAccess, ClearStep}
use Rattle.accepted.specs.Passes.{pass_from}
use Rattle.accepted.specs.Elements.{of_access, of_step, of_turn}
use Rattle.accepted.specs.Laws.Clear.{step_clear, of_step_lem}
use Rattle.explaining.specs.Laws.Asking.{index_small}
use Rattle.dividing.specs.Divisions.{index_divisions, element_divisions, divisions, total}
use Rattle.dividing.specs.Dividing.{divisions_answer, counted}
use Rattle.dividing.specs.Theorems.{counted_accepted, skipped_none, index_needed_lem}
use Rattle.claims.specs.Divisions.{index_needed, element_needed, needed_of}

index_same : (l : Layout) → layout_ok l ≡ true → (x : Indexed) → ((i : ℕ) → x ≡ Index i → i < 2 ^ 32) → index_divisions l x ≡ index_needed l x
index_same l ok Skipped h = skipped_none l
index_same l ok (Index i) h = index_needed_lem l ok i (h i refl)

-- an element's access has rows
element_rows : (a : Access) (e : ℕ) → e < elements_of a → 0 < a.rows
element_rows a e h =
    by_place a.rows 0
    (λ z. let none : elements_of a ≡ 0 = ap (λ (r : ℕ). r * a.columns) z ∙ zero-mul a.columns in absurd (omega (arith, h, none)))
    (λ n. omega (arith, n))

-- those of an access that is not refused, element by element
access_same : (a : Access) → (0 < a.rows → ClearAccess a) → of_access element_divisions a ≡ of_access element_needed a
unfolding of_access
access_same a c =
    each_same (elements_of a) (λ (e : ℕ). element_divisions a e ∷ []) (λ (e : ℕ). element_needed a e ∷ [])
    (λ e h.
    let k = c (element_rows a e h) in
    ap (λ (n : ℕ). n ∷ []) (index_same a.layout k.sized.layout (indexed a (e / a.columns) (e % a.columns)) (index_small a k.clear e h)))

-- those of a step
step_same : (tensors : Tensors) (ts : List MatrixType) (len k : ℕ) (step : Step) → ClearStep tensors ts len step
    → of_step (λ (n : ℕ). element_divisions) tensors ts len k step ≡ of_step (λ (n : ℕ). element_needed) tensors ts len k step
step_same tensors ts len k step c =
    of_step_lem (λ (n : ℕ). element_divisions) tensors ts len k step
    ∙ access_same (step_access tensors ts len step) (step_clear step c)
    ∙ sym (of_step_lem (λ (n : ℕ). element_needed) tensors ts len k step)

-- those of all steps
module _ (sh : Sheet) (w : Within sh) (len : ℕ) (few : len ≤ memory_limit) where
  steps_same : (n k : ℕ) (ts : List MatrixType) (count : ℕ) → k + n ≤ sh.steps → Sized ts → (checked_from n sh len k ts count).refusal.number ≡ 0
      → pass_from (of_turn (λ (n : ℕ). element_divisions) sh len) n sh len k ts ≡ pass_from (of_turn (λ (n : ℕ). element_needed) sh len) n sh len k ts
  unfolding pass_from
  steps_same zero k ts count l s h = refl
  steps_same (suc n) k ts count l s h =
      let step = the_step sh.step k in
      let ok = within_step sh w k (omega arith) in
      let c = checked_step sh.edition sh.tensors ts len step in
      let first = first_clear n sh len k ts count h in
      let rest = ap (λ (r : CheckAnswer). r.refusal.number) (rest_clear n sh len k ts count first) in
      let clear : ClearStep sh.tensors ts len step =
      record { within = w.tensors; memory = few; sized = s; edition = sh.edition; ok = ok; clear = first } in
      ap₂ (λ (xs ys : List ℕ). xs ++ ys) (step_same sh.tensors ts len k step clear)
      (steps_same n (k + 1) c.types (count + c.placed) (omega arith) (check_sized sh.edition sh.tensors ts len step sh.edition sh.tensors.layouts sh.tensors.views ok s) (rw rest at h))

pub counted_needed : (s : List ℕ) (len : ℕ) → (checked_sheet s len).refusal.number ≡ 0
    → counted s len ≡ divisions_answer not_refused (total (needed_of (read_sheet s).sheet len))
unfolding divisions checked
counted_needed s len fine =
    let r = sheet_readable s len fine in
    let sh = (read_sheet s).sheet in
    counted_accepted s len fine
    ∙ ap (λ (ns : List ℕ). divisions_answer not_refused (total ns)) (steps_same sh r.within len r.few sh.steps 0 empty_registers.types 0 (omega arith) sized_empty r.clear)
