-- What translating keeps to: the records of a step, and the answer.
use Prim.Native.Nat.{ℕ, ◌+◌, ◌*◌, ◌<◌, ◌≤◌}
use mathlib.Core.Path.{◌≡◌, refl, sym, ap, ap₂, subst, ◌∙◌}
use mathlib.Core.Bool.{Bool, true, false}
use mathlib.Core.List.{List, [], ◌∷◌}
use native.Mathlib.Omega.{arith}
use borrow.Author.Tests.{eq-eqb, ne_eqb, leb-true}
use lib.Dec.{leb}
use lib.IntN.{ℤ}
use lib.ListN.{length, length-append}
use lib.Seq.{sets}
use Rattle.numbers.specs.Choice.{pick, both}
use Rattle.numbers.specs.Lists.{each}
use Rattle.numbers.specs.Laws.Choice.{taken, left, stop, pass, both_left, both_right}
use Rattle.refusals.specs.Refusals.{tape_too_long, refusal_at, not_refused}
use Rattle.refusals.specs.declared.Refusal.{Refusal}
use Rattle.sheet.specs.Sizes.{register_count, matrix_places}
use Rattle.sheet.specs.declared.Object.{Object}
use Rattle.sheet.specs.declared.Object.TheVariants.{Kept, Zeros, Register}
use Rattle.sheet.specs.declared.Window.{Window}
use Rattle.sheet.specs.declared.Tensors.{Tensors}
use Rattle.sheet.specs.declared.Sheet.{Sheet}
use Rattle.sheet.specs.declared.Step.{Step}
use Rattle.sheet.specs.declared.Step.TheVariants.{Nothing, Load, Store, Whole}
use Rattle.sheet.specs.declared.WholeStep.{WholeStep}
use Rattle.sheet_ranges.specs.Steps.{the_step, step_ok}
use Rattle.sheet_reader.specs.Reading.{read_sheet}
use Rattle.sheet_reader.specs.Parts.{sheet_of}
use Rattle.registers.specs.Sized.{Sized}
use Rattle.registers.specs.Laws.Sized.{sized_places, sized_some}
use Rattle.registers.specs.Types.{the_type, with_type}
use Rattle.registers.specs.declared.MatrixType.{MatrixType}
use Rattle.addressing.specs.Rules.{elements_of}
use Rattle.addressing.specs.declared.Access.{Access}
use Rattle.transfers.specs.Transfers.{outcome_of}
use Rattle.checking.specs.Steps.{access_of, object_register, checked_step}
use Rattle.checking.specs.Turns.{step_access, Met}
use Rattle.checking.specs.Checking.{admitted, checked, checked_sheet}
use Rattle.checking.specs.Laws.Accesses.{access_clear}
use Rattle.checking.specs.Laws.Names.{load_register, load_object, store_register}
use Rattle.checking.specs.Laws.Readable.{is_admitted}
use Rattle.checking.specs.declared.turns.Turn.{Turn}
use Rattle.records.specs.Laws.Records.{fit_room}
use Rattle.records.specs.declared.Record.TheVariants as records
use Rattle.records.specs.Records.{record_length, tape_numbers}
use Rattle.records.specs.Room.{records_fit}
use Rattle.runs.specs.Runs.{held, runs, runs_records}
use Rattle.runs.proofs.Laws.Writing.{count_records}
use Rattle.accepted.specs.Elements.{of_access}
use Rattle.accepted.specs.Accepted.{ClearAccess, ClearStep}
use Rattle.accepted.specs.Laws.Clear.{step_clear}
use Rattle.masks.specs.Masks.{mask_area}
use Rattle.access_tapes.specs.Accesses.{access_outcomes, access_records}
use Rattle.access_tapes.specs.Writing.{Room}
use Rattle.translating.specs.Tapes.{step_records, tape_of}
use Rattle.translating.specs.Turns.{apart_records, moved_register, turn_records, ClearTurn}
use Rattle.translating.specs.Masks.{sheet_masks}
use Rattle.translating.specs.Translating.{translate_answer, fits_room, translated, translates, translated_room, translated_masks}

-- ---- a step and its access

-- a step becomes the records of its turn
pub turn_records_lem : (tensors : Tensors) (ts : List MatrixType) (len k : ℕ) (st : Step) → step_records tensors ts len k st ≡ turn_records k st (step_access tensors ts len st)
unfolding step_records runs_records each held
turn_records_lem tensors ts len k Nothing = refl
turn_records_lem tensors ts len k (Load register Kept window) = refl
turn_records_lem tensors ts len k (Load register Zeros window) = refl
turn_records_lem tensors ts len k (Load register (Register object) window) = refl
turn_records_lem tensors ts len k (Store register window) = refl
turn_records_lem tensors ts len k (Whole whole) = refl

-- a whole step becomes one record, and has no outcomes
module _ (tensors : Tensors) (ts : List MatrixType) (len k : ℕ) {st : Step} {whole : WholeStep} (e : st ≡ Whole whole) where
  pub whole_turn : turn_records k st (step_access tensors ts len st) ≡ records.Whole k ∷ []
  unfolding runs_records each held
  whole_turn = rw e refl

  pub whole_none : access_outcomes (step_access tensors ts len st) ≡ []
  unfolding of_access each
  whole_none = rw e refl

-- a matrix has as many elements as a register at most
elements_few : (tensors : Tensors) (ts : List MatrixType) (len : ℕ) (st : Step) → Sized ts → elements_of (step_access tensors ts len st) ≤ matrix_places
elements_few tensors ts len Nothing z = omega arith
elements_few tensors ts len (Load register object window) z = sized_places (the_type ts (object_register register object)) (z.each (object_register register object))
elements_few tensors ts len (Store register window) z = sized_places (the_type ts register) (z.each register)
elements_few tensors ts len (Whole whole) z = omega arith

-- a step of a sheet, with its access, is a turn of a pass
pub stepped : (s : List ℕ) (ts : List MatrixType) (len k : ℕ) {st : Step} → st ≡ the_step (sheet_of s).step k
    → Met s ts len k (record { step = st; access = step_access (sheet_of s).tensors ts len st })
stepped s ts len k e = record { step = e; access = ap (step_access (sheet_of s).tensors ts len) e }

-- the same of a turn of a pass
module _ {s : List ℕ} {ts : List MatrixType} {len k : ℕ} {t : Turn} (m : Met s ts len k t) where
  pub met_few : Sized ts → elements_of t.access ≤ matrix_places
  met_few z = subst (λ (a : Access). elements_of a ≤ matrix_places) (sym m.access) (elements_few (sheet_of s).tensors ts len (the_step (sheet_of s).step k) z)

  pub met_records : step_records (sheet_of s).tensors ts len k (the_step (sheet_of s).step k) ≡ turn_records k t.step t.access
  met_records =
      turn_records_lem (sheet_of s).tensors ts len k (the_step (sheet_of s).step k)
      ∙ ap₂ (turn_records k) (sym m.step) (sym m.access)

  pub met_clear_turn : ClearStep (sheet_of s).tensors ts len (the_step (sheet_of s).step k) → ClearTurn t.step t.access
  met_clear_turn c =
      record {
        tensors = (sheet_of s).tensors;
        types = ts;
        memory = len;
        clear = subst (ClearStep (sheet_of s).tensors ts len) (sym m.step) c;
        access = m.access ∙ ap (step_access (sheet_of s).tensors ts len) (sym m.step);
      }

-- ---- a turn that is accepted

module _ {st : Step} {a : Access} (c : ClearTurn st a) where
  pub turn_clear : 0 < a.rows → ClearAccess a
  turn_clear h = subst ClearAccess (sym c.access) (step_clear st c.clear (subst (λ (x : Access). 0 < x.rows) c.access h))

  pub turn_few : elements_of a ≤ matrix_places
  turn_few = subst (λ (x : Access). elements_of x ≤ matrix_places) (sym c.access) (elements_few c.tensors c.types c.memory st c.clear.sized)

  moved_register_lem : (st' : Step) → step_ok c.clear.edition c.tensors.layouts c.tensors.views st' ≡ true → moved_register st' < register_count
  moved_register_lem Nothing e = omega arith
  moved_register_lem (Load register object window) e = load_register _ _ _ _ _ _ e
  moved_register_lem (Store register window) e = store_register _ _ _ _ e
  moved_register_lem (Whole whole) e = omega arith

  pub turn_register : moved_register st < register_count
  turn_register = moved_register_lem st c.clear.ok

  -- a load's registers are registers, and its matrix has elements
  module _ {register : ℕ} {object : Object} {window : Window} (e : st ≡ Load register object window) where
    load_ok : step_ok c.clear.edition c.tensors.layouts c.tensors.views (Load register object window) ≡ true
    load_ok = subst (λ (x : Step). step_ok c.clear.edition c.tensors.layouts c.tensors.views x ≡ true) e c.clear.ok

    pub loaded_register : register < register_count
    loaded_register = load_register _ _ _ _ _ _ load_ok

    pub loaded_object : object_register register object < register_count
    loaded_object = load_object _ _ _ _ _ _ load_ok

    pub loaded_some : 0 < elements_of a
    unfolding checked_step
    loaded_some =
        let ts = c.types in
        let t = the_type ts (object_register register object) in
        let clear = subst (λ (x : Step). (checked_step c.clear.edition c.tensors ts c.memory x).stop.number ≡ 0) e c.clear.clear in
        let filled = (access_clear ts (with_type ts register t) t (access_of c.tensors true window t c.memory) clear).filled in
        let same : a ≡ step_access c.tensors ts c.memory (Load register object window) = c.access ∙ ap (step_access c.tensors ts c.memory) e in
        let some : 1 ≤ t.rows * t.columns = sized_some t (c.clear.sized.each (object_register register object)) filled in
        let n : elements_of a ≡ t.rows * t.columns = ap elements_of same in
        omega (arith, some, n)

-- room for all records of a step is room for the one apart, and then for its runs
module _ (tape : List ℤ) (at k : ℕ) (st : Step) (a : Access) (room : Room tape at (turn_records k st a)) where
  both_lengths : length (turn_records k st a) ≡ length (apart_records k st a) + length (access_records a (moved_register st))
  both_lengths = length-append (apart_records k st a) (access_records a (moved_register st))

  pub apart_room : Room tape at (apart_records k st a)
  apart_room = omega (arith, room, both_lengths)

  pub runs_room : (tape₁ : List ℤ) {at₁ : ℕ} → length tape₁ ≡ length tape → at₁ ≡ at + length (apart_records k st a)
      → Room tape₁ at₁ (access_records a (moved_register st))
  runs_room tape₁ e f = omega (arith, room, both_lengths, e, f)

-- the count of one apart and of the runs
pub turn_count : (k : ℕ) (st : Step) (a : Access) {before n : ℕ} → before ≡ length (apart_records k st a) → n ≡ length (runs (outcome_of a) (elements_of a))
    → before + n ≡ length (turn_records k st a)
turn_count k st a e f =
    let runs = count_records a.load (moved_register st) (outcome_of a) (elements_of a) in
    omega (arith, e, f, length-append (apart_records k st a) (access_records a (moved_register st)), runs)

-- ---- the answer

module _ (s : List ℕ) (len : ℕ) where
  module _ {q : Refusal} (is : q ≡ (checked_sheet s len).refusal) where
    -- refused by the check
    module _ (room area : ℕ) (n : 0 < q.number) where
      pub refused_answer_lem : translate_answer q 0 0 ≡ translated s len room area
      unfolding translated pick
      refused_answer_lem = rw (← is, ne_eqb q.number 0 (λ e. omega arith)) refl

      pub refused_not : translates s len room area ≡ false
      unfolding translates
      refused_not = rw (← is) (sym (stop (fits_room s len room area) (ne_eqb q.number 0 (λ e. omega arith))))

    module _ (fine : q.number ≡ 0) (room area : ℕ) where
      -- 16
      pub long_answer : fits_room s len room area ≡ false → translate_answer (refusal_at tape_too_long 0 0) 0 0 ≡ translated s len room area
      unfolding translated pick
      long_answer e = rw (← is, eq-eqb q.number 0 fine, e) refl

      -- the tape
      pub tape_answer : {count records : ℕ} → count ≡ (checked_sheet s len).count → records ≡ length (tape_of (read_sheet s).sheet len)
          → fits_room s len room area ≡ true → translate_answer not_refused count records ≡ translated s len room area
      unfolding translated pick
      tape_answer f g e = rw (f, g, ← is, eq-eqb q.number 0 fine, e) refl

      -- by its room alone
      pub fine_room : {b : Bool} → fits_room s len room area ≡ b → translates s len room area ≡ b
      unfolding translates
      fine_room e = rw (← is) (sym (pass (eq-eqb q.number 0 fine) (sym e)))

  -- both rooms as they were
  pub tape_kept : (tape : List ℤ) (area : ℕ) → translates s len (length tape) area ≡ false → tape ≡ translated_room s len tape area
  unfolding translated_room
  tape_kept tape area e = left _ e refl

  pub masks_kept : (room : ℕ) (masks : List ℕ) → translates s len room (length masks) ≡ false → masks ≡ translated_masks s len room masks
  unfolding translated_masks
  masks_kept room masks e = left _ e refl

  -- both written
  pub tape_room : (tape : List ℤ) (area : ℕ) → translates s len (length tape) area ≡ true
      → sets tape 0 (tape_numbers (tape_of (read_sheet s).sheet len)) ≡ translated_room s len tape area
  unfolding translated_room
  tape_room tape area e = taken _ e refl

  pub masks_room : (room : ℕ) (masks : List ℕ) → translates s len room (length masks) ≡ true
      → sets masks 0 (sheet_masks (read_sheet s).sheet len) ≡ translated_masks s len room masks
  unfolding translated_masks
  masks_room room masks e = taken _ e refl

  -- the numbers of a tape that fits, and the area that holds the masks
  module _ (room area : ℕ) (e : fits_room s len room area ≡ true) where
    pub fits_room_lem : length (tape_of (read_sheet s).sheet len) * record_length ≤ room
    unfolding fits_room
    fits_room_lem = fit_room _ _ _ (both_left _ _ e)

    pub fits_area : mask_area ≤ area
    unfolding fits_room
    fits_area = leb-true _ _ (both_right (records_fit (read_sheet s).sheet.edition room (length (tape_of (read_sheet s).sheet len))) _ e)

  -- whether it fits, of the edition that was read and the records that were counted
  pub room_tested : {edition n : ℕ} {b : Bool} (room area : ℕ) → edition ≡ (read_sheet s).sheet.edition → n ≡ length (tape_of (read_sheet s).sheet len)
      → b ≡ both (records_fit edition room n) (leb mask_area area) → b ≡ fits_room s len room area
  unfolding fits_room
  room_tested room area e f g = g ∙ rw (f, e) refl

  -- where the sheet is admitted, its check is that of its steps
  pub steps_check : (admitted s len).refusal.number ≡ 0 → checked_sheet s len ≡ checked (read_sheet s).sheet len
  steps_check h = let r = is_admitted s len h in r.check ∙ ap (λ (x : Sheet). checked x len) r.same
