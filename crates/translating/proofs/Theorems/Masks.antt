-- Where a sheet is translated, its masks say what its loads and stores touch: a bit is set exactly where the element has a byte, a
-- step's count is the number of its elements with a byte, and the counts add up to the count in the answer.
use Prim.Native.Nat.{ℕ, zero, suc, ◌+◌, ◌-◌, ◌<◌, ◌≤◌}
use Rattle.std.specs.Prelude.{◌≡◌, List, [], ◌∷◌, ◌++◌, length, get_or}
use Rattle.std.proofs.Math.Path.{refl, sym, ap}
use Rattle.std.proofs.Common.{◌∙◌, eq-eqb, le-leb}
use Rattle.std.proofs.Math.Bool.{true, false}
use Rattle.std.proofs.Math.Nat.{sub-zero}
use native.Mathlib.Omega.{arith}
use Rattle.std.proofs.lemmas.List.Edits.{sets}
use Rattle.numbers.specs.Choice.{pick}
use Rattle.numbers.specs.Lists.{each}
use Rattle.numbers.specs.Laws.Choice.{by_order}
use Rattle.outcomes.specs.declared.Outcome.{Outcome}
use Rattle.outcomes.specs.declared.Outcome.TheVariants.{Skipped}
use Rattle.sheet.specs.Sizes.{step_places, matrix_places, memory_limit}
use Rattle.sheet.specs.declared.Tensors.{Tensors}
use Rattle.sheet.specs.declared.Sheet.{Sheet}
use Rattle.sheet.specs.declared.Step.{Step}
use Rattle.sheet.specs.declared.Step.TheVariants.{Nothing, Load, Store, Whole}
use Rattle.sheet_ranges.specs.Steps.{the_step}
use Rattle.sheet_ranges.specs.Laws.Within.{Within, within_places}
use Rattle.sheet_reader.specs.Reading.{read_sheet}
use Rattle.registers.specs.Sized.{Sized}
use Rattle.registers.specs.Laws.Sized.{sized_empty}
use Rattle.registers.specs.Types.{the_type, with_type}
use Rattle.registers.specs.declared.MatrixType.{MatrixType}
use Rattle.addressing.specs.Rules.{elements_of}
use Rattle.addressing.specs.declared.Access.{Access}
use Rattle.addressing.specs.declared.Located.{Located}
use Rattle.accesses.specs.Refusals.{element_outcome, placed_count, checked_elements}
use Rattle.transfers.specs.Transfers.{outcome_of}
use Rattle.checking.specs.Steps.{access_of, object_register, access_check, checked_step}
use Rattle.checking.specs.Checking.{checked_from, checked, checked_sheet}
use Rattle.checking.specs.Laws.Accesses.{access_clear}
use Rattle.checking.specs.Laws.Readable.{sheet_readable}
use Rattle.checking.specs.Laws.Steps.{check_sized, access_placed}
use Rattle.checking.specs.Laws.Turns.{one_less, first_clear, rest_clear, within_step}
use Rattle.checking.specs.declared.CheckAnswer.{CheckAnswer}
use Rattle.accepted.specs.Passes.{types_at}
use Rattle.accepted.specs.Elements.{of_access, of_step}
use Rattle.accepted.specs.Laws.Elements.{step_few, at_step_lem, at_past}
use Rattle.masks.specs.Masks.{mask_area, sum_of, touched}
use Rattle.masks.specs.Placed.{has_byte, placed_in, count_at}
use Rattle.masks.proofs.Laws.Bits.{sum_past}
use Rattle.masks.proofs.Theorems.{touched_steps, touched_outcome, count_placed, counts_placed, past_area}
use Rattle.translating.specs.Masks.{step_outcomes, sheet_outcomes, sheet_masks}
use Rattle.translating.specs.Translating.{translated, translated_masks}
use Rattle.translating.proofs.Theorems.Translated.{told, does, fits_area}

-- ---- the outcomes of a step, and what its check counts

placed_append : (xs ys : List Outcome) → placed_in (xs ++ ys) ≡ placed_in xs + placed_in ys
unfolding placed_in
placed_append [] ys = omega arith
placed_append (x ∷ xs) ys = omega (arith, placed_append xs ys)

placed_each : (f : ℕ → Located) (n : ℕ) → placed_in (each n (λ (e : ℕ). (f e).outcome ∷ [])) ≡ placed_count f n
unfolding each placed_in placed_count
placed_each f zero = refl
placed_each f (suc n) =
    omega (arith, placed_append (each n (λ (e : ℕ). (f e).outcome ∷ [])) ((f n).outcome ∷ []), placed_each f n)

placed_access : (a : Access) → placed_in (of_access outcome_of a) ≡ placed_count (element_outcome a) (elements_of a)
unfolding of_access
placed_access a = placed_each (element_outcome a) (elements_of a)

-- a load or a store that is not refused
moved_placed : (before after : List MatrixType) (t : MatrixType) (a : Access) → (access_check before after t a).stop.number ≡ 0
    → (access_check before after t a).placed ≡ placed_in (of_access outcome_of a)
unfolding access_check checked_elements pick
moved_placed before after t a h =
    let clear = access_clear before after t a h in
    rw clear.filled (access_placed a clear.clear ∙ sym (placed_access a))

module _ (edition : ℕ) (tensors : Tensors) (ts : List MatrixType) (len k : ℕ) where
  step_placed : (step : Step) → (checked_step edition tensors ts len step).stop.number ≡ 0
      → (checked_step edition tensors ts len step).placed ≡ placed_in (step_outcomes tensors ts len k step)
  unfolding checked_step of_step placed_in
  step_placed Nothing h = refl
  step_placed (Load register object window) h =
      let t = the_type ts (object_register register object) in
      moved_placed ts (with_type ts register t) t (access_of tensors true window t len) h
  step_placed (Store register window) h =
      let t = the_type ts register in moved_placed ts ts t (access_of tensors false window t len) h
  step_placed (Whole whole) h = refl

-- ---- of an accepted sheet

module _ (sh : Sheet) (w : Within sh) (len : ℕ) where
  -- the types at a step keep to Sizes, so that it has at most a register's elements
  pub types_sized : (k : ℕ) → k ≤ sh.steps → Sized (types_at sh len k)
  unfolding types_at
  types_sized zero h = sized_empty
  types_sized (suc k) h =
      check_sized sh.edition sh.tensors (types_at sh len k) len (the_step sh.step k) sh.edition sh.tensors.layouts sh.tensors.views (within_step sh w k h) (types_sized k (omega arith))

  outcomes_few : (k : ℕ) → length (sheet_outcomes sh len k) ≤ matrix_places
  outcomes_few k =
      by_order k sh.steps
      (λ h. rw (at_step_lem (λ (n : ℕ). outcome_of) sh len k h) (step_few (λ (n : ℕ). outcome_of) sh.tensors (types_at sh len k) len k (the_step sh.step k) (types_sized k (omega arith))))
      (λ h. rw (at_past (λ (n : ℕ). outcome_of) sh len k h) (omega arith))

  abbrev placed_at : ℕ → ℕ
  placed_at k = placed_in (sheet_outcomes sh len k)

  module _ (fine : (checked sh len).refusal.number ≡ 0) where
    -- what the check has counted when step k comes
    counted_to : (k : ℕ) → k ≤ sh.steps → checked sh len ≡ checked_from (sh.steps - k) sh len k (types_at sh len k) (sum_of placed_at k)
    unfolding checked types_at sum_of
    counted_to zero h = rw (sub-zero sh.steps) refl
    counted_to (suc k) h =
        let n = sh.steps - (k + 1) in
        let ts = types_at sh len k in
        let step = the_step sh.step k in
        let before : checked sh len ≡ checked_from (suc n) sh len k ts (sum_of placed_at k) = counted_to k (omega arith) ∙ ap (λ (m : ℕ). checked_from m sh len k ts (sum_of placed_at k)) (one_less sh.steps k h) in
        let clear = first_clear n sh len k ts (sum_of placed_at k) (ap (λ (c : CheckAnswer). c.refusal.number) (sym before) ∙ fine) in
        let placed = step_placed sh.edition sh.tensors ts len k step clear ∙ ap placed_in (sym (at_step_lem (λ (i : ℕ). outcome_of) sh len k h)) in
        let e : k + 1 ≡ suc k = omega arith in
        before ∙ rest_clear n sh len k ts (sum_of placed_at k) clear ∙ rw (placed, e) refl

    -- and at the end: all placed elements of all steps
    checked_count : sum_of placed_at step_places ≡ (checked sh len).count
    unfolding checked_from placed_in
    checked_count =
        let all : sh.steps + (step_places - sh.steps) ≡ step_places = omega (arith, within_places w) in
        let past = sum_past placed_at sh.steps (step_places - sh.steps) (λ k h. rw (at_past (λ (i : ℕ). outcome_of) sh len k h) refl) in
        let none : sh.steps - sh.steps ≡ 0 = omega arith in
        rw all at past ∙ sym (rw none at (ap (λ (c : CheckAnswer). c.count) (counted_to sh.steps (omega arith))))

-- the count of a sheet that its check accepts is its steps'
sheet_count : (s : List ℕ) (len : ℕ) → (checked_sheet s len).refusal.number ≡ 0 → (checked (read_sheet s).sheet len).count ≡ (checked_sheet s len).count
unfolding checked_sheet pick
sheet_count s len h =
    let r = sheet_readable s len h in
    rw (le-leb len memory_limit r.few, eq-eqb (read_sheet s).refusal.number 0 r.read) refl

-- ---- of a translated sheet

module _ (s : List ℕ) (len room : ℕ) (masks : List ℕ) (h : (translated s len room (length masks)).refusal.number ≡ 0) where
  abbrev sh : Sheet
  sh = (read_sheet s).sheet

  abbrev area : List ℕ
  area = translated_masks s len room masks

  within : Within sh
  within = (sheet_readable s len (told s len room (length masks) h).accepted).within

  masks_are : area ≡ sets masks 0 (sheet_masks sh len)
  unfolding translated_masks pick
  masks_are = rw (does s len room (length masks) h)

  wide : mask_area ≤ length masks
  wide = fits_area s len room (length masks) h

  -- A bit is set exactly where the element has a byte: of every step, also past the last, and of every element, also past the matrix.
  pub translated_touched : (step e : ℕ) → touched area step e ≡ has_byte (get_or (sheet_outcomes sh len step) e Skipped)
  unfolding sheet_masks
  translated_touched step e =
      by_order step step_places
      (λ l. touched_outcome (sheet_outcomes sh len) masks area wide masks_are step e l (outcomes_few sh within len step))
      (λ l. touched_steps area step e l ∙ sym (rw (at_past (λ (n : ℕ). outcome_of) sh len step (omega (arith, within_places within))) refl))

  -- A step's count is the number of its elements with a byte.
  pub translated_counted : (step : ℕ) → step < step_places → count_at area step ≡ placed_in (sheet_outcomes sh len step)
  unfolding sheet_masks
  translated_counted step l = count_placed (sheet_outcomes sh len) masks area wide masks_are (outcomes_few sh within len) step l

  -- The counts of all steps add up to the count in the answer.
  pub translated_sum : sum_of (count_at area) step_places ≡ (translated s len room (length masks)).count
  unfolding sheet_masks
  translated_sum =
      let t = told s len room (length masks) h in
      counts_placed (sheet_outcomes sh len) masks area wide masks_are (outcomes_few sh within len) step_places (omega arith)
      ∙ checked_count sh within len (sheet_readable s len t.accepted).clear
      ∙ sheet_count s len t.accepted
      ∙ sym t.count

  -- Bytes past the masks are as they were.
  pub translated_past : (k : ℕ) → mask_area ≤ k → get_or area k 0 ≡ get_or masks k 0
  unfolding sheet_masks
  translated_past k l = past_area (sheet_outcomes sh len) masks area wide masks_are k l
