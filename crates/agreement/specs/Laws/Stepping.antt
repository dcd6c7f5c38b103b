-- One step: its records pass, and leave what the step leaves.
use Rattle.std.specs.Prelude.{ℕ, ◌+◌, ◌*◌, ◌^◌, ◌<◌, ◌≡◌, Bool, not, length}
use Rattle.std.proofs.Math.Path.{refl, ap}
use Rattle.std.proofs.Common.{sym, ◌∙◌, arith, pow_pos, get_or-set_same}
use Rattle.std.proofs.Math.Bool.{true, false}
use mathlib.Core.List.{List, [], ◌∷◌}
use borrow.Author.Tests.{lt-ltb, le-leb, eq-eqb}
use Rattle.std.proofs.lemmas.List.{set-get_or}
use Rattle.numbers.specs.Laws.Choice.{both_true}
use Rattle.kinds.specs.Widths.{bytes_of, width, fits}
use Rattle.kinds.specs.Laws.Widths.{width_bytes}
use Rattle.outcomes.specs.declared.Outcome.{Outcome}
use Rattle.outcomes.specs.declared.Outcome.TheVariants.{Skipped, Filled, Discarded, Placed}
use Rattle.sheet.specs.Sizes.{register_count}
use Rattle.sheet_ranges.specs.Steps.{the_step, step_ok}
use Rattle.sheet.specs.declared.Object.{Object}
use Rattle.sheet.specs.declared.Object.TheVariants.{Kept, Zeros, Register}
use Rattle.sheet.specs.declared.Window.{Window}
use Rattle.sheet.specs.declared.Sheet.{Sheet}
use Rattle.sheet.specs.declared.Step.{Step}
use Rattle.sheet.specs.declared.Step.TheVariants as step
use Rattle.sheet.specs.declared.WholeStep.{WholeStep}
use Rattle.registers.specs.Types.{no_type, the_type, is_empty, with_type}
use Rattle.registers.specs.declared.MatrixType.{MatrixType}
use Rattle.whole_steps.specs.Refusals.{whole_refusal}
use Rattle.whole_steps.specs.Whole.{whole_types}
use Rattle.addressing.specs.Rules.{elements_of}
use Rattle.addressing.specs.declared.Access.{Access}
use Rattle.addressing.specs.Sound.{Sound}
use Rattle.addressing.specs.Laws.Sound.{low_bits_fit}
use Rattle.accesses.proofs.Laws.Accepted.{element_sound}
use Rattle.transfers.specs.Transfers.{outcome_of, transferred}
use Rattle.checking.specs.Steps.{access_of, object_register, checked_step, step_types}
use Rattle.checking.specs.Laws.Names.{load_register}
use Rattle.checking.specs.Laws.Accesses.{access_moved, access_clear}
use Rattle.carrying.specs.Steps.{Machine, state_of, machine_of, with_object, object_done, load_done, store_done, performed_step}
use Rattle.carrying.specs.Machines.{check_on, Accepted}
use Rattle.carrying.specs.Laws.Types.{object_type}
use Rattle.records.specs.declared.Record.{Record}
use Rattle.records.specs.declared.Record.TheVariants.{Whole}
use Rattle.runs.proofs.Laws.States.{perform_all, perform_all_append}
use Rattle.access_tapes.specs.Accesses.{access_records}
use Rattle.translating.specs.Tapes.{object_records, step_records}
use Rattle.judging.specs.Records.{fill_record_ok, whole_record_ok, record_ok}
use Rattle.moves.specs.Laws.Elements.{fill_order}
use Rattle.running.specs.Records.{ran_record_with, ran_record}
use Rattle.agreement.specs.Laws.Passing.{Passes, none, more, passes_append, ran_all}
use Rattle.agreement.specs.Laws.Moving.{element_done, FillsOnLoad, runs_done}
use Rattle.agreement.specs.Laws.InRange.{Passable, runs_pass}

-- ---- a load or a store

module _ (sh : Sheet) (load : Bool) (register : ℕ) (window : Window) where
  abbrev access : MatrixType → ℕ → Access
  access t len = access_of sh.tensors load window t len

  outcome_fills : (a : Access) (o : Outcome) → Sound a o → FillsOnLoad a.load o
  outcome_fills a Skipped s = tt
  outcome_fills a (Filled v) s = s.0
  outcome_fills a Discarded s = tt
  outcome_fills a (Placed b) s = tt

  outcome_passable : (t : MatrixType) (len : ℕ) (o : Outcome) → Sound (access t len) o → Passable t.kind len o
  unfolding fits
  outcome_passable t len Skipped s = tt
  outcome_passable t len (Filled v) s = lt-ltb v (2 ^ width t.kind) (rw (s.1, ← width_bytes t.kind) (low_bits_fit (access t len)))
  outcome_passable t len Discarded s = tt
  outcome_passable t len (Placed b) s = s.0

  pub access_passable : (t : MatrixType) (len i : ℕ) → Passable t.kind len (outcome_of (access t len) i)
  access_passable t len i = outcome_passable t len (outcome_of (access t len) i) (element_sound (access t len) i)

  access_passes : (len : ℕ) (ts : List MatrixType) (t : MatrixType) → the_type ts register ≡ t → is_empty t ≡ false
      → Passes sh len (access_records (access t len) register) ts ts
  access_passes len ts t is some =
      runs_pass sh len load register ts t is some (outcome_of (access t len)) (access_passable t len) (elements_of (access t len)) (omega arith)

  access_done : (m : Machine)
      → let t : MatrixType = the_type m.registers.types register in
      let a = access t (length m.memory) in
      ran_all sh (access_records a register) m
      ≡ machine_of m.registers.types (transferred (element_done load (bytes_of t.kind) register) (outcome_of a) (elements_of a) (state_of m))
  access_done m =
      let a = access (the_type m.registers.types register) (length m.memory) in
      runs_done sh register load (outcome_of a) (elements_of a) m (λ i. outcome_fills a (outcome_of a i) (element_sound a i))

-- ---- the object of a load

-- zeros over a matrix that is not empty
zeros_pass : (t : MatrixType) → is_empty t ≡ false → fill_record_ok t 0 (t.rows * t.columns) 0 ≡ true
unfolding fill_record_ok fits
zeros_pass t some =
    let n = t.rows * t.columns in
    both_true _ _ (rw some) (both_true _ _ (le-leb (0 + n) n (omega arith)) (lt-ltb 0 (2 ^ width t.kind) (pow_pos (width t.kind))))

module _ (sh : Sheet) (m : Machine) (register : ℕ) where
  abbrev type_of : Object → MatrixType
  type_of object = the_type m.registers.types (object_register register object)

  object_passes : (object : Object) (len : ℕ) → is_empty (type_of object) ≡ false
      → Passes sh len (object_records register object (type_of object)) m.registers.types (with_type m.registers.types register (type_of object))
  object_passes Kept len some = rw (set-get_or m.registers.types register no_type) none
  object_passes Zeros len some = rw (set-get_or m.registers.types register no_type) (more (zeros_pass (type_of Zeros) some) none)
  object_passes (Register object) len some = let p : not (is_empty (the_type m.registers.types object)) ≡ true = rw some in more p none

  object_done_lem : (object : Object) → ran_all sh (object_records register object (type_of object)) m ≡ object_done register object m
  unfolding with_object perform_all ran_record_with
  object_done_lem Kept = refl
  object_done_lem Zeros =
      let t = type_of Zeros in
      ap (machine_of m.registers.types) (sym (fill_order register 0 0 m.registers.elements m.memory m.counts (t.rows * t.columns)))
  object_done_lem (Register object) = refl

-- ---- any step

module _ (sh : Sheet) (m : Machine) (k : ℕ) where
  abbrev ts : List MatrixType
  ts = m.registers.types

  abbrev len : ℕ
  len = length m.memory

  whole_passes : (w : WholeStep) → k < sh.steps → the_step sh.step k ≡ step.Whole w → (whole_refusal sh.edition ts len w).number ≡ 0
      → Passes sh len (Whole k ∷ []) ts (whole_types ts w)
  unfolding whole_record_ok
  whole_passes w h e z =
      let p : record_ok sh ts len (Whole k) ≡ true = both_true _ _ (lt-ltb k sh.steps h) (rw e (eq-eqb _ 0 z)) in
      let types : step_types ts (the_step sh.step k) ≡ whole_types ts w = rw e in
      rw (← types) (more p none)

  -- None of a step's records is out of range, and they leave the types that its check tracks.
  pub step_passes : (st : Step) → k < sh.steps → the_step sh.step k ≡ st → Accepted sh.edition sh.tensors st m → length ts ≡ register_count
      → step_ok sh.edition sh.tensors.layouts sh.tensors.views st ≡ true
      → Passes sh len (step_records sh.tensors ts len k st) ts (check_on sh.edition sh.tensors st m).types
  unfolding step_records checked_step
  step_passes step.Nothing h e a four ok = none
  step_passes (step.Load register object window) h e a four ok =
      let t = the_type ts (object_register register object) in
      let x = access_of sh.tensors true window t len in
      let after = with_type ts register t in
      let some = (access_clear ts after t x a).filled in
      let few = load_register _ _ _ register object window ok in
      rw (access_moved ts after t x some)
      (passes_append sh (object_passes sh m register object len some)
      (access_passes sh true register window len after t (get_or-set_same ts register t no_type (omega arith)) some))
  step_passes (step.Store register window) h e a four ok =
      let t = the_type ts register in
      let x = access_of sh.tensors false window t len in
      let some = (access_clear ts ts t x a).filled in
      rw (access_moved ts ts t x some) (access_passes sh false register window len ts t refl some)
  step_passes (step.Whole whole) h e a four ok = whole_passes whole h e a

  whole_done_lem : (st : Step) → the_step sh.step k ≡ st → ran_all sh (Whole k ∷ []) m ≡ performed_step sh.tensors st m
  unfolding perform_all ran_record_with
  whole_done_lem st e = ap (λ (x : Step). performed_step sh.tensors x m) e

  load_done_lem : (register : ℕ) (object : Object) (window : Window) → register < length ts
      → ran_all sh (step_records sh.tensors ts len k (step.Load register object window)) m ≡ performed_step sh.tensors (step.Load register object window) m
  unfolding step_records performed_step load_done
  load_done_lem register object window few =
      let given = object_done register object m in
      let t = the_type ts (object_register register object) in
      perform_all_append (ran_record sh) (object_records register object t) (records t) m
      ∙ ap (ran_all sh (records t)) (object_done_lem sh m register object)
      ∙ ap (λ (t : MatrixType). ran_all sh (records t) given) (sym (object_type register object m few))
      ∙ access_done sh true register window given
    where
      records : MatrixType → List Record
      records t = access_records (access_of sh.tensors true window t len) register

  -- A step's records leave what the step leaves.
  pub step_done : (st : Step) → the_step sh.step k ≡ st → length ts ≡ register_count → step_ok sh.edition sh.tensors.layouts sh.tensors.views st ≡ true
      → ran_all sh (step_records sh.tensors ts len k st) m ≡ performed_step sh.tensors st m
  unfolding step_records performed_step store_done perform_all
  step_done step.Nothing e four ok = refl
  step_done (step.Load register object window) e four ok =
      let few = load_register _ _ _ register object window ok in load_done_lem register object window (omega arith)
  step_done (step.Store register window) e four ok = access_done sh false register window m
  step_done (step.Whole whole) e four ok = whole_done_lem _ e
