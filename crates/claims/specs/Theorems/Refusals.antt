-- Which refusals each routine gives.
use Prim.Native.Nat.{ℕ, zero, suc, ◌+◌, ◌*◌, ◌/◌, ◌%◌, ◌^◌}
use Rattle.std.proofs.Math.Path.{refl}
use Rattle.std.specs.Prelude.{List, ◌⊎◌, eqb, ltb, leb, ℤ, length}
use Rattle.std.proofs.Math.Logic.{inl, inr}
use native.Mathlib.Omega.{arith}
use Rattle.numbers.specs.Choice.{pick}
use Rattle.numbers.specs.Laws.Choice.{pick_case, by_test}
use Rattle.refusals.specs.Refusals.{index_too_large, outside_memory}
use Rattle.refusals.specs.declared.Refusal.{Refusal}
use Rattle.refusals.specs.declared.Stop.{Stop}
use Rattle.sheet.specs.Sizes.{memory_limit}
use Rattle.sheet.specs.declared.Tensors.{Tensors}
use Rattle.sheet.specs.declared.Sheet.{Sheet}
use Rattle.sheet.specs.declared.Step.{Step}
use Rattle.sheet.specs.declared.Step.TheVariants.{Nothing, Load, Store, Whole}
use Rattle.sheet.specs.declared.WholeStep.{WholeStep}
use Rattle.sheet.specs.declared.WholeStep.TheVariants.{Fill, Reduce, Transpose, MultiplyAdd, Vector}
use Rattle.sheet_ranges.specs.Steps.{the_step}
use Rattle.sheet_ranges.specs.Sheets.{writable}
use Rattle.fields.specs.Fields.{field_at}
use Rattle.fields.specs.declared.Field.{Field}
use Rattle.fields.specs.declared.Field.TheVariants as field
use Rattle.sheet_reader.specs.Reading.{refused_read, accepted_read, read_sheet}
use Rattle.sheet_reader.specs.Laws.Growing.{reading}
use Rattle.sheet_reader.specs.declared.ReadAnswer.{ReadAnswer}
use Rattle.sheet_writer.specs.Bytes.{sheet_bytes}
use Rattle.sheet_writer.specs.Writing.{written}
use Rattle.sheet_writer.specs.declared.WriteAnswer.{WriteAnswer}
use Rattle.registers.specs.Types.{is_empty, the_type}
use Rattle.registers.specs.Registers.{empty_registers}
use Rattle.registers.specs.declared.MatrixType.{MatrixType}
use Rattle.reduces.specs.Shapes.{reduce_agrees, reduce_refusal}
use Rattle.products.specs.Shapes.{multiply_agrees, multiply_refusal}
use Rattle.vectors.specs.Places.{elements_of as vectorElements}
use Rattle.vectors.specs.Refusals.{input_agrees, first_outside, memory_refusal, vector_refusal}
use Rattle.whole_steps.specs.Transposing.{transpose_refusal}
use Rattle.whole_steps.specs.Refusals.{whole_refusal}
use Rattle.clamps.specs.declared.Clamped.{Clamped}
use Rattle.clamps.specs.declared.Clamped.TheVariants.{Refused, Discarded, Filled, At}
use Rattle.spans.specs.Spans.{span_coordinates}
use Rattle.addressing.specs.Rules.{elements_of, tensor_index, addressed, settled, reached, landed, indexed, located}
use Rattle.addressing.specs.declared.Access.{Access}
use Rattle.addressing.specs.declared.Indexed.{Indexed}
use Rattle.addressing.specs.declared.Indexed.TheVariants.{Skipped, Index}
use Rattle.addressing.specs.declared.Located.{Located}
use Rattle.accesses.specs.Refusals.{element_outcome, misplaced, other_rank, store_blocked, first_refused, clash_refusal, elements_refusal, access_refusal, checked_elements}
use Rattle.checking.specs.Steps.{access_check, checked_step}
use Rattle.checking.specs.Checking.{checked_from, checked, checked_sheet}
use Rattle.checking.specs.declared.StepCheck.{StepCheck}
use Rattle.checking.specs.declared.CheckAnswer.{CheckAnswer}
use Rattle.carrying.specs.Carrying.{carried}
use Rattle.translating.specs.Translating.{fits_room, translated}
use Rattle.translating.specs.declared.TranslateAnswer.{TranslateAnswer}
use Rattle.records.specs.declared.Decoded.{Decoded}
use Rattle.records.specs.Room.{records_fit}
use Rattle.judging.specs.Judging.{decoded_ok, range_from, tape_refusal}
use Rattle.running.specs.Running.{run_refusal, run_tape}
use Rattle.traces.specs.Events.{event_tag, content_length, event_at, event_ok, is_after}
use Rattle.traces.specs.Reading.{Trace, Turn, over, on, field_refusal, turn_field, turn, after_turn, read_from, read_trace}
use Rattle.traces.specs.declared.Previous.{Previous}
use Rattle.traces.specs.declared.Previous.TheVariants.{None, Some}
use Rattle.tracing.specs.Tracing.{traced_length, traced}
use Rattle.tracing.specs.declared.TraceAnswer.{TraceAnswer}
use Rattle.replaying.specs.Replaying.{replayed}
use Rattle.replaying.specs.declared.ReplayAnswer.{ReplayAnswer}
use Rattle.claims.specs.Numbers.{Only, FromTo, OfReading, OfWriting, OfSteps, OfCheck, OfTranslating, OfRunning, OfTracing, OfTrace, OfReplaying}

-- not refused, or more numbers
more : {Z M N : Type 0} → (M → N) → Z ⊎ M → Z ⊎ N
more f (inl z) = inl z
more f (inr m) = inr (f m)

-- ---- one step

module _ (a : Access) where
  abbrev OfElement : Located → Type 0
  OfElement r = Only (FromTo index_too_large outside_memory) r.refusal

  addressed_only : (t : ℕ) → OfElement (addressed a t)
  unfolding addressed
  addressed_only t =
      pick_case OfElement (leb (a.base + t * a.size + a.size) a.memory) _ _ (λ e. inl refl) (λ e. inr (omega arith, omega arith))

  settled_only : (c : Clamped) → OfElement (settled a c)
  settled_only Refused = inr (omega arith, omega arith)
  settled_only Discarded = inl refl
  settled_only Filled = inl refl
  settled_only (At t) = addressed_only t

  landed_only : (i : Indexed) → OfElement (landed a i)
  unfolding reached
  landed_only Skipped = inl refl
  landed_only (Index i) = pick_case OfElement (leb (2 ^ 32) i) _ _ (λ e. inr (omega arith, omega arith)) (λ e. settled_only (tensor_index a.load a.layout (span_coordinates a.layout i) a.layout.rank))

  element_only : (k : ℕ) → OfElement (element_outcome a k)
  unfolding element_outcome located
  element_only k = landed_only (indexed a (k / a.columns) (k % a.columns))

  abbrev OfStop : Stop → Type 0
  OfStop s = Only OfSteps s.number

  first_only : (k m : ℕ) → OfStop (first_refused (element_outcome a) k m)
  unfolding first_refused
  first_only k zero = inl refl
  first_only k (suc m) =
      pick_case OfStop (eqb (element_outcome a k).refusal 0) _ _ (λ e. first_only (suc k) m)
      (λ e. more (λ r. (omega (arith, r.0), omega (arith, r.1))) (element_only k))

  clash_only : (m i : ℕ) → OfStop (clash_refusal m i)
  unfolding clash_refusal
  clash_only m i = pick_case OfStop (ltb i m) _ _ (λ e. inr (omega arith, omega arith)) (λ e. inl refl)

  access_only : OfStop (access_refusal a)
  unfolding access_refusal elements_refusal
  access_only =
      pick_case OfStop (misplaced a) _ _ (λ e. inr (omega arith, omega arith))
      (λ e. pick_case OfStop (other_rank a) _ _ (λ f. inr (omega arith, omega arith))
      (λ f. pick_case OfStop (store_blocked a) _ _ (λ g. inr (omega arith, omega arith))
      (λ g. pick_case OfStop (eqb (first_refused (element_outcome a) 0 (elements_of a)).number 0) _ _
      (λ h. pick_case OfStop a.load _ _ (λ i. inl refl) (λ i. clash_only (elements_of a) _))
      (λ h. first_only 0 (elements_of a)))))

  check_only : (before after : List MatrixType) (t : MatrixType) → Only OfSteps (access_check before after t a).stop.number
  unfolding access_check checked_elements
  check_only before after t =
      pick_case (λ (c : StepCheck). Only OfSteps c.stop.number) (is_empty t) _ _ (λ e. inr (omega arith, omega arith)) (λ e. access_only)

-- 7 and 8 of a whole step, 14 of a vector step
whole_only : (edition : ℕ) (ts : List MatrixType) (len : ℕ) (w : WholeStep) → Only OfSteps (whole_refusal edition ts len w).number
unfolding reduce_refusal transpose_refusal multiply_refusal vector_refusal memory_refusal
whole_only edition ts len (Fill register rows columns kind value) = inl refl
whole_only edition ts len (Reduce result source rows columns mode combine) =
    let t = the_type ts source in
    pick_case (Only OfSteps) (is_empty t) _ _ (λ e. inr (omega arith, omega arith))
    (λ e. pick_case (Only OfSteps) (reduce_agrees t rows columns mode) _ _ (λ f. inl refl) (λ f. inr (omega arith, omega arith)))
whole_only edition ts len (Transpose result source) =
    pick_case (Only OfSteps) (is_empty (the_type ts source)) _ _ (λ e. inr (omega arith, omega arith)) (λ e. inl refl)
whole_only edition ts len (MultiplyAdd result a b c) =
    pick_case (Only OfSteps) (is_empty (the_type ts a)) _ _ (λ e. inr (omega arith, omega arith))
    (λ e. pick_case (Only OfSteps) (is_empty (the_type ts b)) _ _ (λ f. inr (omega arith, omega arith))
    (λ f. pick_case (Only OfSteps) (is_empty (the_type ts c)) _ _ (λ g. inr (omega arith, omega arith))
    (λ g. pick_case (Only OfSteps) (multiply_agrees (the_type ts a) (the_type ts b) (the_type ts c)) _ _ (λ h. inl refl) (λ h. inr (omega arith, omega arith)))))
whole_only edition ts len (Vector v) =
    let t = the_type ts v.input in
    pick_case P (is_empty t) _ _ (λ e. inr (omega arith, omega arith))
    (λ e. pick_case P (input_agrees t v) _ _
    (λ f. pick_case P (ltb (first_outside v len) (vectorElements v)) _ _ (λ g. inr (omega arith, omega arith)) (λ g. inl refl))
    (λ f. inr (omega arith, omega arith)))
  where
    P : Stop → Type 0
    P s = Only OfSteps s.number

step_only : (edition : ℕ) (tensors : Tensors) (ts : List MatrixType) (len : ℕ) (step : Step) → Only OfSteps (checked_step edition tensors ts len step).stop.number
unfolding checked_step
step_only edition tensors ts len Nothing = inl refl
step_only edition tensors ts len (Load register object window) = check_only _ _ _ _
step_only edition tensors ts len (Store register window) = check_only _ _ _ _
step_only edition tensors ts len (Whole whole) = whole_only edition ts len whole

-- ---- whole sheets

steps_only : (n : ℕ) (sh : Sheet) (len k : ℕ) (ts : List MatrixType) (count : ℕ) → Only OfSteps (checked_from n sh len k ts count).refusal.number
unfolding checked_from
steps_only zero sh len k ts count = inl refl
steps_only (suc n) sh len k ts count =
    let c = checked_step sh.edition sh.tensors ts len (the_step sh.step k) in
    pick_case (λ (r : CheckAnswer). Only OfSteps r.refusal.number) (eqb c.stop.number 0) _ _
    (λ e. steps_only n sh len (k + 1) c.types (count + c.placed))
    (λ e. step_only sh.edition sh.tensors ts len (the_step sh.step k))

-- Reading gives 1 to 6 only.
pub reading_only : (s : List ℕ) → Only OfReading (read_sheet s).refusal.number
unfolding refused_read accepted_read
reading_only s = reading s (λ (r : ReadAnswer). Only OfReading r.refusal.number) (λ n at h m. inr (h, m)) (λ sh g. inl refl)

-- Writing gives 5 and 19.
pub writing_only : (sh : Sheet) (room : ℕ) → Only OfWriting (written sh room).refusal.number
unfolding written
writing_only sh room =
    pick_case P (writable sh) _ _ (λ e. pick_case P (leb (length (sheet_bytes sh)) room) _ _ (λ f. inl refl) (λ f. inr (inr refl))) (λ e. inr (inl refl))
  where
    P : WriteAnswer → Type 0
    P r = Only OfWriting r.refusal.number

-- The check gives 18 and 1 to 15.
pub checking_only : (s : List ℕ) (len : ℕ) → Only OfCheck (checked_sheet s len).refusal.number
unfolding checked_sheet checked
checking_only s len =
    pick_case P (leb len memory_limit) _ _
    (λ l. pick_case P (eqb (read_sheet s).refusal.number 0) _ _
    (λ e. more (λ r. inr (omega (arith, r.0), r.1)) (steps_only (read_sheet s).sheet.steps (read_sheet s).sheet len 0 empty_registers.types 0))
    (λ e. more (λ r. inr (r.0, omega (arith, r.1))) (reading_only s)))
    (λ l. inr (inl refl))
  where
    P : CheckAnswer → Type 0
    P r = Only OfCheck r.refusal.number

-- So does carrying out.
pub carrying_only : (s memory : List ℕ) → Only OfCheck (carried s memory).refusal.number
unfolding carried pick
carrying_only s memory =
    by_test (eqb (checked_sheet s (length memory)).refusal.number 0) (λ e. rw e (inl refl)) (λ e. rw e (checking_only s (length memory)))

-- Translating gives also 16.
pub translating_only : (s : List ℕ) (len room area : ℕ) → Only OfTranslating (translated s len room area).refusal.number
unfolding translated
translating_only s len room area =
    pick_case P (eqb (checked_sheet s len).refusal.number 0) _ _
    (λ e. pick_case P (fits_room s len room area) _ _ (λ f. inl refl) (λ f. inr (inr refl)))
    (λ e. more inl (checking_only s len))
  where
    P : TranslateAnswer → Type 0
    P r = Only OfTranslating r.refusal.number

-- Running gives 18, reading's 1 to 6, and 17.
range_only : (n : ℕ) (sh : Sheet) (len : ℕ) (the : ℕ → Decoded) (k : ℕ) (ts : List MatrixType) → Only OfRunning (range_from n sh len the k ts).number
unfolding range_from
range_only zero sh len the k ts = inl refl
range_only (suc n) sh len the k ts =
    pick_case (λ (r : Refusal). Only OfRunning r.number) (decoded_ok sh ts len (the k)) _ _ (λ e. range_only n sh len the (k + 1) _) (λ e. inr (inr (inr refl)))

run_only : (s : List ℕ) (tape : List ℤ) (records len : ℕ) → Only OfRunning (run_refusal s tape records len).number
unfolding run_refusal tape_refusal
run_only s tape records len =
    pick_case P (leb len memory_limit) _ _
    (λ l. pick_case P (eqb (read_sheet s).refusal.number 0) _ _
    (λ e. pick_case P (records_fit (read_sheet s).sheet.edition (length tape) records) _ _
    (λ f. range_only records (read_sheet s).sheet len _ 0 empty_registers.types) (λ f. inr (inr (inr refl))))
    (λ e. more (λ r. inr (inl r)) (reading_only s)))
    (λ l. inr (inl refl))
  where
    P : Refusal → Type 0
    P r = Only OfRunning r.number

pub running_only : (s : List ℕ) (tape : List ℤ) (records : ℕ) (memory : List ℕ) → Only OfRunning (run_tape s tape records memory).refusal.number
unfolding run_tape pick
running_only s tape records memory =
    by_test (eqb (run_refusal s tape records (length memory)).number 0) (λ e. rw e (inl refl)) (λ e. rw e (run_only s tape records (length memory)))

-- Tracing gives the check's and 19.
pub tracing_only : (s : List ℕ) (len room : ℕ) → Only OfTracing (traced s len room).refusal.number
unfolding traced
tracing_only s len room =
    pick_case P (eqb (checked_sheet s len).refusal.number 0) _ _
    (λ e. pick_case P (ltb room (traced_length s len)) _ _ (λ f. inr (inr refl)) (λ f. inl refl))
    (λ e. more inl (checking_only s len))
  where
    P : TraceAnswer → Type 0
    P r = Only OfTracing r.refusal.number

-- A trace gives 1, 2, 4, 5 and 26.
field_only : (t : List ℕ) (tag p len : ℕ) (previous : Previous) → Only OfTrace (field_refusal t tag p len previous)
unfolding field_refusal
field_only t tag p len previous =
    pick_case (Only OfTrace) (eqb tag event_tag) _ _
    (λ e. pick_case (Only OfTrace) (eqb len content_length) _ _
    (λ f. pick_case (Only OfTrace) (event_ok (event_at t p)) _ _
    (λ g. pick_case (Only OfTrace) (is_after previous (event_at t p)) _ _ (λ h. inl refl) (λ h. inr (inr (inr (inr (inr refl))))))
    (λ g. inr (inr (inr (inr (inl refl))))))
    (λ f. inr (inr (inr (inl refl)))))
    (λ e. inr (inr (inl refl)))

abbrev OfTurn : Turn → Type 0
OfTurn (over r) = Only OfTrace r.refusal.number
OfTurn (on at e) = Unit {0}

turn_only : (t : List ℕ) (at : ℕ) (previous : Previous) (x : Field) → OfTurn (turn_field t at previous x)
unfolding turn_field
turn_only t at previous field.Short = inr (inl refl)
turn_only t at previous (field.Whole tag start len next) =
    pick_case OfTurn (eqb (field_refusal t tag start len previous) 0) _ _ (λ e. tt) (λ e. field_only t tag start len previous)

after_only : (f : ℕ → Previous → Trace) → ((at : ℕ) (previous : Previous) → Only OfTrace (f at previous).refusal.number) → (x : Turn) → OfTurn x
    → Only OfTrace (after_turn f x).refusal.number
unfolding after_turn
after_only f h (over r) o = o
after_only f h (on at e) o = h at (Some e)

from_only : (n : ℕ) (t : List ℕ) (at : ℕ) (previous : Previous) → Only OfTrace (read_from n t at previous).refusal.number
unfolding read_from turn
from_only zero t at previous = inr (inl refl)
from_only (suc n) t at previous =
    after_only (read_from n t) (λ at previous. from_only n t at previous) _
    (pick_case OfTurn (ltb at (length t)) _ _ (λ e. turn_only t at previous (field_at t at)) (λ e. inl refl))

pub trace_only : (t : List ℕ) → Only OfTrace (read_trace t).refusal.number
unfolding read_trace
trace_only t = from_only (suc (length t)) t 0 None

-- Replaying gives the check's, then the trace's.
pub replaying_only : (s : List ℕ) (len : ℕ) (t : List ℕ) → Only OfReplaying (replayed s len t).refusal.number
unfolding replayed
replaying_only s len t =
    pick_case P (eqb (checked_sheet s len).refusal.number 0) _ _
    (λ e. pick_case P (eqb (read_trace t).refusal.number 0) _ _ (λ f. inl refl) (λ f. more inr (trace_only t)))
    (λ e. more inl (checking_only s len))
  where
    P : ReplayAnswer → Type 0
    P r = Only OfReplaying r.refusal.number
