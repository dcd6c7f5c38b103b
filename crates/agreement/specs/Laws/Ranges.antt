-- The records of a tape are within the ranges that their six numbers say.
use Prim.Native.Nat.{ℕ, zero, suc, ◌+◌, ◌^◌, ◌<◌, ◌≤◌}
use Rattle.std.specs.Prelude.{◌≡◌, Bool, List}
use Rattle.std.proofs.Math.Bool.{true, false}
use native.Mathlib.Omega.{arith}
use Rattle.std.proofs.Common.{ltb-true}
use Rattle.kinds.specs.Widths.{width, fits}
use Rattle.kinds.specs.Laws.Widths.{width_case, bytes_low}
use Rattle.outcomes.specs.declared.Outcome.{Outcome}
use Rattle.outcomes.specs.declared.Outcome.TheVariants.{Skipped, Filled, Discarded, Placed}
use Rattle.sheet.specs.Sizes.{register_count, step_places, memory_limit}
use Rattle.sheet_ranges.specs.Steps.{the_step, step_ok}
use Rattle.sheet.specs.declared.Object.{Object}
use Rattle.sheet.specs.declared.Object.TheVariants.{Kept, Zeros, Register}
use Rattle.sheet.specs.declared.Window.{Window}
use Rattle.sheet.specs.declared.Sheet.{Sheet}
use Rattle.sheet.specs.declared.Step.{Step}
use Rattle.sheet.specs.declared.Step.TheVariants.{Nothing, Load, Store, Whole}
use Rattle.sheet_ranges.specs.Laws.Within.{Within, within_places}
use Rattle.registers.specs.Types.{the_type, is_empty, with_type}
use Rattle.registers.specs.Registers.{empty_registers}
use Rattle.registers.specs.Sized.{SizedType, Sized}
use Rattle.registers.specs.Laws.Sized.{sized_empty, sized_places, sized_some}
use Rattle.registers.specs.declared.MatrixType.{MatrixType}
use Rattle.addressing.specs.Rules.{elements_of}
use Rattle.transfers.specs.Transfers.{outcome_of}
use Rattle.checking.specs.Steps.{access_of, object_register, checked_step}
use Rattle.checking.specs.Checking.{checked_from, checked}
use Rattle.checking.specs.Laws.Names.{load_register, load_object, store_register}
use Rattle.checking.specs.Laws.Accesses.{access_clear}
use Rattle.checking.specs.Laws.Steps.{check_sized}
use Rattle.checking.specs.Laws.Turns.{first_clear, rest_clear, within_step}
use Rattle.accepted.specs.Passes.{pass_from}
use Rattle.records.specs.Ranges.{AllInRange}
use Rattle.records.specs.Laws.Records.{all_append}
use Rattle.records.specs.Ranges as ranges
use Rattle.runs.specs.Ranges.{Fitting}
use Rattle.runs.proofs.Laws.Ranges.{runs_within}
use Rattle.access_tapes.specs.Accesses.{access_records}
use Rattle.translating.specs.Tapes.{object_records, step_records, tape_from, tape_of}
use Rattle.agreement.specs.Laws.InRange.{Passable}
use Rattle.agreement.specs.Laws.Stepping.{access_passable}

module _ (len : ℕ) (most : len ≤ memory_limit) where
  -- a byte lies in memory, and bits fit their kind
  near : (kind : ℕ) (o : Outcome) → Passable kind len o → Fitting o
  unfolding fits
  near kind Skipped h = tt
  near kind (Filled v) h =
      width_case kind (λ (bits : ℕ). v < 2 ^ bits → v < 2 ^ 32) (λ l. omega arith) (λ l. omega arith) (λ l. l) (ltb-true v (2 ^ width kind) h)
  near kind Discarded h = tt
  near kind (Placed b) h = omega (arith, bytes_low kind)

  module _ (sh : Sheet) where
    access_within : (load : Bool) (register : ℕ) (window : Window) (t : MatrixType) → register < register_count → SizedType t
        → AllInRange (access_records (access_of sh.tensors load window t len) register)
    access_within load register window t few s =
        let a = access_of sh.tensors load window t len in
        runs_within load register few (outcome_of a) (elements_of a) (omega (arith, sized_places t s))
        (λ i l. near t.kind (outcome_of a i) (access_passable sh load register window t len i))

    -- zeros are over one element at least, since no load of an empty register is accepted
    object_within : (register : ℕ) (object : Object) (t : MatrixType) → register < register_count → object_register register object < register_count
        → SizedType t → is_empty t ≡ false → AllInRange (object_records register object t)
    object_within register Kept t few own s some = tt
    object_within register Zeros t few own s some =
        let n = sized_places t s in
        ((record { register = few; first = omega arith; some = sized_some t s some; count = omega (arith, n) }, omega arith), tt)
    object_within register (Register object) t few own s some = ((few, own), tt)

    step_within : (ts : List MatrixType) (k : ℕ) (st : Step) (edition layouts views : ℕ) → k < step_places → step_ok edition layouts views st ≡ true → Sized ts
        → (checked_step edition sh.tensors ts len st).stop.number ≡ 0 → AllInRange (step_records sh.tensors ts len k st)
    unfolding step_records checked_step
    step_within ts k Nothing edition layouts views l ok s a = tt
    step_within ts k (Load register object window) edition layouts views l ok s a =
        let few = load_register edition layouts views register object window ok in
        let t = the_type ts (object_register register object) in
        let x = access_of sh.tensors true window t len in
        let sized = s.each (object_register register object) in
        all_append ranges.InRange (object_records register object t) (access_records x register)
        (object_within register object t few (load_object edition layouts views register object window ok) sized (access_clear ts (with_type ts register t) t x a).filled)
        (access_within true register window t few sized)
    step_within ts k (Store register window) edition layouts views l ok s a =
        access_within false register window (the_type ts register) (store_register layouts views register window ok) (s.each register)
    step_within ts k (Whole whole) edition layouts views l ok s a = (omega arith, tt)

    module _ (w : Within sh) where
      from_within : (n k : ℕ) (ts : List MatrixType) (count : ℕ) → k + n ≤ sh.steps → Sized ts → (checked_from n sh len k ts count).refusal.number ≡ 0
          → AllInRange (tape_from n sh len k ts)
      unfolding pass_from
      from_within zero k ts count l s h = tt
      from_within (suc n) k ts count l s h =
          let st = the_step sh.step k in
          let ok = within_step sh w k (omega arith) in
          let a = first_clear n sh len k ts count h in
          all_append ranges.InRange (step_records sh.tensors ts len k st) _
          (step_within ts k st sh.edition sh.tensors.layouts sh.tensors.views (omega (arith, within_places w)) ok s a)
          (from_within n (k + 1) _ _ (omega arith)
          (check_sized sh.edition sh.tensors ts len st sh.edition sh.tensors.layouts sh.tensors.views ok s)
          (rw (rest_clear n sh len k ts count a) at h))

      -- every record of the tape of a sheet within Sizes that is accepted, for a memory of a length within Sizes
      pub tape_within : (checked sh len).refusal.number ≡ 0 → AllInRange (tape_of sh len)
      unfolding tape_of checked
      tape_within h = from_within sh.steps 0 empty_registers.types 0 (omega arith) sized_empty h
