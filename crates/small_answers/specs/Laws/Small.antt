-- Every place, second place and count of an answer is small.
use Prim.Native.Nat.{ℕ, zero, suc, ◌+◌, ◌-◌, ◌*◌, ◌^◌, ◌<◌, ◌≤◌}
use Rattle.std.specs.Prelude.{◌≡◌, refl, true, false, List, [], eqb, ltb, leb, ℤ, length}
use Rattle.std.proofs.Common.{ap, eqb-true, ltb-true, leb-true}
use Rattle.std.proofs.Math.Nat.{sub-zero}
use native.Mathlib.Omega.{arith}
use Rattle.std.proofs.lemmas.Bool.{eqb-false}
use Rattle.numbers.specs.Choice.{pick}
use Rattle.numbers.specs.Laws.Choice.{pick_case, both_left, by_order}
use Rattle.sheet_ranges.specs.Sheets.{empty_sheet, no_tensors, writable}
use Rattle.sheet_ranges.specs.Steps.{the_step, step_ok}
use Rattle.refusals.specs.declared.Refusal.{Refusal}
use Rattle.sheet.specs.declared.Tensors.{Tensors}
use Rattle.sheet.specs.declared.Sheet.{Sheet}
use Rattle.sheet.specs.declared.Step.{Step}
use Rattle.sheet.specs.declared.Step.TheVariants.{Nothing, Load, Store, Whole}
use Rattle.sheet_reader.specs.Reading.{refused_read, accepted_read, read_sheet}
use Rattle.sheet_reader.specs.declared.ReadAnswer.{ReadAnswer}
use Rattle.sheet_writer.specs.Bytes.{sheet_bytes}
use Rattle.sheet_writer.specs.Writing.{written}
use Rattle.sheet_writer.specs.declared.WriteAnswer.{WriteAnswer}
use Rattle.sheet.specs.Sizes.{side_places, step_places, matrix_places, record_places, memory_limit}
use Rattle.sheet_ranges.specs.Laws.Within.{Within, within, within_places}
use Rattle.round_trip.proofs.Laws.Sheets.{sheet_short}
use Rattle.round_trip.proofs.Laws.Growing.{reading}
use Rattle.sheet_reader.specs.Laws.Growing.{read_within}
use Rattle.registers.specs.Types.{the_type, is_empty, with_type}
use Rattle.registers.specs.Sized.{Sized}
use Rattle.registers.specs.Laws.Sized.{sized_empty, sized_places}
use Rattle.registers.specs.Registers.{empty_registers}
use Rattle.registers.specs.declared.MatrixType.{MatrixType}
use Rattle.addressing.specs.Rules.{elements_of}
use Rattle.addressing.specs.declared.Access.{Access}
use Rattle.addressing.specs.declared.Located.{Located}
use Rattle.clashes.specs.Clashes.{clash_from}
use Rattle.accesses.specs.Refusals as accesses
use Rattle.accesses.specs.Refusals.{element_outcome, misplaced, other_rank, store_blocked, first_refused, same_at, clash_refusal, elements_refusal, access_refusal}
use Rattle.refusals.specs.declared.Stop.{Stop}
use Rattle.whole_steps.proofs.Laws.Within.{whole_ok_lem, refusal_element}
use Rattle.checking.specs.Steps.{access_of, object_register, access_check, checked_step}
use Rattle.carrying.specs.Steps.{Machine}
use Rattle.checking.specs.Checking.{checked_from, checked, checked_sheet}
use Rattle.carrying.specs.Carrying.{performed, started, carried}
use Rattle.checking.specs.Laws.Steps.{check_sized, step_placed}
use Rattle.checking.specs.Laws.Turns.{within_step}
use Rattle.checking.specs.Laws.Readable.{sheet_readable}
use Rattle.carrying.specs.Theorems.Counts.{sheet_count}
use Rattle.checking.specs.declared.StepCheck.{StepCheck}
use Rattle.checking.specs.declared.CheckAnswer.{CheckAnswer}
use Rattle.carrying.specs.Carrying.{CarriedOut}
use Rattle.dividing.specs.Dividing.{counted}
use Rattle.dividing.specs.Laws.Few.{divisions_few}
use Rattle.dividing.specs.Theorems.{five_each}
use Rattle.dividing.specs.declared.DivisionsAnswer.{DivisionsAnswer}
use Rattle.outcomes.specs.declared.Outcome.{Outcome}
use Rattle.outcomes.specs.declared.Outcome.TheVariants.{Skipped, Filled, Discarded, Placed}
use Rattle.outcomes.specs.declared.Explained.{Explained}
use Rattle.addressing.specs.Sound.{Sound}
use Rattle.accesses.proofs.Laws.Accepted.{element_sound}
use Rattle.transfers.specs.Transfers.{outcome_of}
use Rattle.accepted.specs.Passes.{types_at}
use Rattle.accepted.specs.Elements.{of_access, of_step, at_step}
use Rattle.explaining.specs.Elements.{explained, step_explained, sheet_explained}
use Rattle.explaining.specs.Explaining.{asked, answered_by, explained_sheet}
use Rattle.explaining.specs.Laws.Asking.{asked_none, access_past, access_asked}
use Rattle.explaining.specs.declared.Asked.{Asked}
use Rattle.explaining.specs.declared.Asked.TheVariants as found
use Rattle.explaining.specs.declared.ExplainAnswer.{ExplainAnswer}
use Rattle.records.specs.declared.Decoded.{Decoded}
use Rattle.translating.specs.Translating.{fits_room, translated}
use Rattle.judging.specs.Judging.{tape_record, decoded_ok, decoded_types, range_from, tape_refusal}
use Rattle.running.specs.Running.{ran, ran_decoded, run_refusal, run_tape}
use Rattle.running.proofs.Laws.Turns.{RunReady, ready_start, turn_next, turns_end}
use Rattle.records.specs.Laws.Records.{fit_few}
use Rattle.judging.specs.Laws.Turns.{tape_fit, tape_clear}
use Rattle.translating.specs.declared.TranslateAnswer.{TranslateAnswer}
use Rattle.traces.specs.Reading.{read_trace}
use Rattle.traces.proofs.Laws.Refusals.{refusal_element as trace-element}
use Rattle.traces.specs.declared.Event.{Event}
use Rattle.expected.specs.Expected.{expected}
use Rattle.expected.specs.Laws.Few.{expected_few}
use Rattle.tracing.specs.Tracing.{traced_length, traced}
use Rattle.tracing.specs.declared.TraceAnswer.{TraceAnswer}
use Rattle.replaying.specs.Verdicts.{common, verdict_at, verdict_of}
use Rattle.replaying.specs.Replaying.{replayed}
use Rattle.replaying.proofs.Laws.Verdicts.{common_most}
use Rattle.replaying.specs.declared.Verdict.TheVariants.{Agrees, Differs}
use Rattle.replaying.specs.declared.ReplayAnswer.{ReplayAnswer}
use Rattle.rows.specs.Rows.{row_most, capped}
use Rattle.rows.specs.Small.{Small, SmallVerdict, SmallOutcome}

-- a limit's refusal, then reading's, then what the sheet gives
by_reading : {A : Type 0} (P : A → Type 0) (s : List ℕ) (len : ℕ) {x y z : A} → (Within (read_sheet s).sheet → P x) → (0 < (read_sheet s).refusal.number → P y) → P z
    → P (pick (leb len memory_limit) (pick (eqb (read_sheet s).refusal.number 0) x y) z)
by_reading P s len {x} {y} {z} f g h =
    pick_case P (leb len memory_limit) _ z
    (λ l. pick_case P (eqb (read_sheet s).refusal.number 0) x y
    (λ e. f (read_within s (eqb-true _ 0 e)))
    (λ e. let d = eqb-false (read_sheet s).refusal.number 0 e in g (omega arith)))
    (λ l. h)

-- ---- reading and writing

pub read_small : (s : List ℕ) → Small (read_sheet s).refusal 0
unfolding refused_read accepted_read
read_small s =
    reading s (λ (r : ReadAnswer). Small r.refusal 0) (λ n at h m l. (omega arith, omega arith, omega arith))
    (λ sh g. (omega arith, omega arith, omega arith))

-- the counts of a sheet
abbrev pub SmallSheet : Sheet → Type 0
SmallSheet sh = (sh.tensors.layouts < 2 ^ 32) × (sh.tensors.views < 2 ^ 32) × (sh.steps < 2 ^ 32)

pub counts_small : (s : List ℕ) → SmallSheet (read_sheet s).sheet
unfolding refused_read accepted_read empty_sheet no_tensors
counts_small s =
    reading s (λ (r : ReadAnswer). SmallSheet r.sheet) (λ n at h m l. (omega arith, omega arith, omega arith))
    (λ sh g. let w = g.grown.within in (omega (arith, w.tensors.layouts), omega (arith, w.tensors.views), omega (arith, within_places w)))

pub written_small : (sh : Sheet) (room : ℕ) → Small (written sh room).refusal (written sh room).bytes
unfolding written
written_small sh room =
    pick_case P (writable sh) _ _
    (λ e. pick_case P (leb (length (sheet_bytes sh)) room) _ _ (λ l. (omega arith, omega arith, omega (arith, sheet_short sh (within sh e))))
    (λ l. (omega arith, omega arith, omega arith)))
    (λ e. (omega arith, omega arith, omega arith))
  where
    P : WriteAnswer → Type 0
    P r = Small r.refusal r.bytes

-- ---- checking and carrying out

-- a refusal of elements is at one of them
first_among : (f : ℕ → Located) (k m : ℕ) → (first_refused f k m).element ≤ k + m
unfolding first_refused
first_among f k zero = omega arith
first_among f k (suc m) =
    pick_case (λ (t : Stop). t.element ≤ k + suc m) (eqb (f k).refusal 0) _ _ (λ e. omega (arith, first_among f (suc k) m)) (λ e. omega arith)

clash_among : (m i : ℕ) → (clash_refusal m i).element ≤ m
unfolding clash_refusal
clash_among m i = pick_case (λ (t : Stop). t.element ≤ m) (ltb i m) _ _ (λ e. omega (arith, ltb-true i m e)) (λ e. omega arith)

access_among : (a : Access) → (access_refusal a).element ≤ elements_of a
unfolding access_refusal elements_refusal
access_among a =
    let f = element_outcome a in
    let m = elements_of a in
    pick_case P (misplaced a) _ _ (λ e. omega arith)
    (λ e. pick_case P (other_rank a) _ _ (λ e. omega arith)
    (λ e. pick_case P (store_blocked a) _ _ (λ e. omega arith)
    (λ e. pick_case P (eqb (first_refused f 0 m).number 0) _ _
    (λ e. pick_case P a.load _ _ (λ e. omega arith) (λ e. clash_among m (clash_from (same_at f) 0 m)))
    (λ e. omega (arith, first_among f 0 m)))))
  where
    P : Stop → Type 0
    P t = t.element ≤ elements_of a

-- of at most a register's
moved_among : (before after : List MatrixType) (t : MatrixType) (a : Access) → elements_of a ≤ matrix_places → (access_check before after t a).stop.element ≤ matrix_places
unfolding access_check accesses.checked_elements
moved_among before after t a s =
    pick_case (λ (c : StepCheck). c.stop.element ≤ matrix_places) (is_empty t) _ _ (λ e. omega arith) (λ e. omega (arith, s, access_among a))

step_element : (edition : ℕ) (tensors : Tensors) (ts : List MatrixType) (len : ℕ) (step : Step) (layouts views : ℕ)
    → step_ok edition layouts views step ≡ true → Sized ts → (checked_step edition tensors ts len step).stop.element ≤ matrix_places + side_places
unfolding checked_step
step_element edition tensors ts len Nothing layouts views ok s = omega arith
step_element edition tensors ts len (Load register object window) layouts views ok s =
    let t = the_type ts (object_register register object) in
    omega (arith, moved_among ts (with_type ts register t) t (access_of tensors true window t len) (sized_places t (s.each (object_register register object))))
step_element edition tensors ts len (Store register window) layouts views ok s =
    let t = the_type ts register in
    omega (arith, moved_among ts ts t (access_of tensors false window t len) (sized_places t (s.each register)))
step_element edition tensors ts len (Whole whole) layouts views ok s = refusal_element edition ts len whole (whole_ok_lem edition whole ok).parts

abbrev SmallCheck : CheckAnswer → Type 0
SmallCheck c = Small c.refusal c.count

-- steps of at most a register's elements each
module _ (sh : Sheet) (w : Within sh) (len : ℕ) where
  from_small : (n k : ℕ) (ts : List MatrixType) (count : ℕ) → k + n ≤ sh.steps → count ≤ k * matrix_places → Sized ts → SmallCheck (checked_from n sh len k ts count)
  unfolding checked_from
  from_small zero k ts count l few s = (omega arith, omega arith, omega (arith, within_places w))
  from_small (suc n) k ts count l few s =
      let step = the_step sh.step k in
      let c = checked_step sh.edition sh.tensors ts len step in
      let ok = within_step sh w k (omega arith) in
      pick_case SmallCheck (eqb c.stop.number 0) _ _
      (λ e. from_small n (k + 1) c.types (count + c.placed) (omega arith) (omega (arith, step_placed sh.edition sh.tensors ts len step s))
      (check_sized sh.edition sh.tensors ts len step sh.edition sh.tensors.layouts sh.tensors.views ok s))
      (λ e. (omega (arith, within_places w), omega (arith, step_element sh.edition sh.tensors ts len step sh.tensors.layouts sh.tensors.views ok s), omega arith))

  checked_small : SmallCheck (checked sh len)
  unfolding checked
  checked_small = from_small sh.steps 0 empty_registers.types 0 (omega arith) (omega arith) sized_empty

pub check_small : (s : List ℕ) (len : ℕ) → Small (checked_sheet s len).refusal (checked_sheet s len).count
unfolding checked_sheet
check_small s len = by_reading SmallCheck s len (λ w. checked_small _ w len) (λ n. read_small s) (omega arith, omega arith, omega arith)

-- performing an accepted sheet counts what its check counted
carried_count : (s memory : List ℕ) → (checked_sheet s (length memory)).refusal.number ≡ 0 → (performed (read_sheet s).sheet (started memory)).counts.placed ≡ (checked_sheet s (length memory)).count
unfolding checked_sheet
carried_count s memory =
    by_reading (λ (c : CheckAnswer). c.refusal.number ≡ 0 → (performed (read_sheet s).sheet (started memory)).counts.placed ≡ c.count) s (length memory)
    (λ w h. sheet_count _ w memory h) (λ n h. absurd (omega arith)) (λ h. absurd (omega arith))

pub carried_small : (s memory : List ℕ) → Small (carried s memory).refusal (carried s memory).counts.placed
unfolding carried
carried_small s memory =
    let c = check_small s (length memory) in
    pick_case (λ (r : CarriedOut). Small r.refusal r.counts.placed) (eqb (checked_sheet s (length memory)).refusal.number 0) _ _
    (λ e. (omega arith, omega arith, rw (carried_count s memory (eqb-true _ 0 e)) c.2)) (λ e. (c.0, c.1, omega arith))

-- ---- divisions

pub counted_small : (s : List ℕ) (len : ℕ) → Small (counted s len).refusal (counted s len).divisions
unfolding counted
counted_small s len =
    let c = check_small s len in
    let sh = (read_sheet s).sheet in
    pick_case (λ (r : DivisionsAnswer). Small r.refusal r.divisions) (eqb (checked_sheet s len).refusal.number 0) _ _
    (λ e. (omega arith, omega arith, omega (arith, five_each sh len, divisions_few sh (sheet_readable s len (eqb-true _ 0 e)).within len)))
    (λ e. (c.0, c.1, omega arith))

-- ---- translating and running

abbrev pub SmallTranslate : TranslateAnswer → Type 0
SmallTranslate r = (r.records < 2 ^ 32) × Small r.refusal r.count

pub translated_small : (s : List ℕ) (len room area : ℕ) → SmallTranslate (translated s len room area)
unfolding translated fits_room
translated_small s len room area =
    let c = check_small s len in
    pick_case SmallTranslate (eqb (checked_sheet s len).refusal.number 0) _ _
    (λ e. pick_case SmallTranslate (fits_room s len room area) _ _ (λ f. (omega (arith, fit_few _ _ _ (both_left _ _ f)), (omega arith, omega arith, c.2)))
    (λ f. (omega arith, (omega arith, omega arith, omega arith))))
    (λ e. (omega arith, (c.0, c.1, omega arith)))

range_small : (n : ℕ) (sh : Sheet) (len : ℕ) (the : ℕ → Decoded) (k : ℕ) (ts : List MatrixType) → k + n ≤ record_places → Small (range_from n sh len the k ts) 0
unfolding range_from
range_small zero sh len the k ts l = (omega arith, omega arith, omega arith)
range_small (suc n) sh len the k ts l =
    pick_case (λ (r : Refusal). Small r 0) (decoded_ok sh ts len (the k)) _ _ (λ e. range_small n sh len the (k + 1) (decoded_types sh ts (the k)) (omega arith))
    (λ e. (omega arith, omega arith, omega arith))

-- records of at most a register's elements each
ran_few : (n : ℕ) (sh : Sheet) → Within sh → (len : ℕ) (the : ℕ → Decoded) (goal : Machine) (left k : ℕ) (m : Machine) → k + left ≡ n → RunReady (n - k) sh len the k m goal
    → goal.counts.placed ≤ n * matrix_places
ran_few n sh w len the goal zero k m e r =
    let q = ap (λ (x : Machine). x.counts.placed) (turns_end n sh len the k m goal r (omega arith)) in omega (arith, q, r.few)
ran_few n sh w len the goal (suc left) k m e r =
    ran_few n sh w len the goal left (k + 1) (ran_decoded sh (the k) m) (omega arith) (turn_next n sh len the k m goal r (omega arith) w refl)

module _ (s : List ℕ) (tape : List ℤ) (records : ℕ) where
  refusal_small : (len : ℕ) → Small (run_refusal s tape records len) 0
  unfolding run_refusal tape_refusal
  refusal_small len =
      by_reading P s len
      (λ w. pick_case P _ _ _ (λ f. range_small records _ len (tape_record tape) 0 empty_registers.types (omega (arith, fit_few _ _ _ f)))
      (λ f. (omega arith, omega arith, omega arith)))
      (λ n. read_small s) (omega arith, omega arith, omega arith)
    where
      P : Refusal → Type 0
      P r = Small r 0

  ran_small : (memory : List ℕ) → (run_refusal s tape records (length memory)).number ≡ 0 → (ran records (read_sheet s).sheet (tape_record tape) (started memory)).counts.placed < 2 ^ 32
  unfolding run_refusal
  ran_small memory =
      by_reading (λ (r : Refusal). r.number ≡ 0 → (ran records (read_sheet s).sheet (tape_record tape) (started memory)).counts.placed < 2 ^ 32) s (length memory)
      (λ w h.
      let sh = (read_sheet s).sheet in
      let f = fit_few _ _ _ (tape_fit sh tape records (length memory) h) in
      let r = ready_start records sh (tape_record tape) memory (tape_clear sh tape records (length memory) h) in
      let few = ran_few records sh w (length memory) (tape_record tape) (ran records sh (tape_record tape) (started memory)) records 0 (started memory) (omega arith) (rw (sub-zero records) r) in
      omega (arith, f, few))
      (λ n h. absurd (omega arith)) (λ h. absurd (omega arith))

  pub run_small : (memory : List ℕ) → Small (run_tape s tape records memory).refusal (run_tape s tape records memory).counts.placed
  unfolding run_tape
  run_small memory =
      let c = refusal_small (length memory) in
      pick_case (λ (r : CarriedOut). Small r.refusal r.counts.placed) (eqb (run_refusal s tape records (length memory)).number 0) _ _
      (λ e. (omega arith, omega arith, ran_small memory (eqb-true _ 0 e))) (λ e. (c.0, c.1, omega arith))

-- ---- explaining

abbrev SmallAsked : Asked → Type 0
SmallAsked found.Nothing = Unit {0}
SmallAsked (found.Element x) = SmallOutcome x.outcome

-- a byte lies in memory
outcome_small : (a : Access) (o : Outcome) → a.memory < 2 ^ 32 → Sound a o → SmallOutcome o
outcome_small a Skipped h s = tt
outcome_small a (Filled bits) h s = tt
outcome_small a Discarded h s = tt
outcome_small a (Placed byte) h s = omega (arith, s.0)

none_small : (e : ℕ) → SmallAsked (asked [] e)
none_small e = rw (asked_none [] e (omega arith)) tt

access_told : (a : Access) (e : ℕ) → a.memory < 2 ^ 32 → SmallAsked (asked (of_access explained a) e)
access_told a e h =
    by_order e (elements_of a) (λ l. rw (access_asked a e l) (outcome_small a (outcome_of a e) h (element_sound a e)))
    (λ l. rw (access_past a e l) tt)

step_told : (tensors : Tensors) (ts : List MatrixType) (len k : ℕ) (step : Step) (e : ℕ) → len < 2 ^ 32 → SmallAsked (asked (step_explained tensors ts len k step) e)
unfolding of_step
step_told tensors ts len k Nothing e h = none_small e
step_told tensors ts len k (Load register object window) e h =
    access_told (access_of tensors true window (the_type ts (object_register register object)) len) e h
step_told tensors ts len k (Store register window) e h = access_told (access_of tensors false window (the_type ts register) len) e h
step_told tensors ts len k (Whole whole) e h = none_small e

sheet_told : (sh : Sheet) (len k e : ℕ) → len < 2 ^ 32 → SmallAsked (asked (sheet_explained sh len k) e)
unfolding at_step
sheet_told sh len k e h =
    pick_case (λ (xs : List Explained). SmallAsked (asked xs e)) (ltb k sh.steps) _ []
    (λ t. step_told sh.tensors (types_at sh len k) len k (the_step sh.step k) e h) (λ t. none_small e)

pub record SmallExplained (r : ExplainAnswer) : Type 0 where
  pub outcome : SmallOutcome r.explained.outcome
  pub answer : Small r.refusal 0

answered_small : (step e : ℕ) (x : Asked) → step < 2 ^ 32 → e < 2 ^ 32 → SmallAsked x → SmallExplained (answered_by step e x)
answered_small step e found.Nothing g h s = record { outcome = tt; answer = (g, h, omega arith) }
answered_small step e (found.Element x) g h s = record { outcome = s; answer = (omega arith, omega arith, omega arith) }

pub explained_small : (s : List ℕ) (len step e : ℕ) → step < 2 ^ 32 → e < 2 ^ 32 → SmallExplained (explained_sheet s len step e)
unfolding explained_sheet
explained_small s len step e g h =
    let c = check_small s len in
    pick_case SmallExplained (eqb (checked_sheet s len).refusal.number 0) _ _
    (λ t.
    answered_small step e (asked (sheet_explained (read_sheet s).sheet len step) e) g h
    (sheet_told (read_sheet s).sheet len step e (omega (arith, (sheet_readable s len (eqb-true _ 0 t)).few))))
    (λ t. record { outcome = tt; answer = (c.0, c.1, omega arith) })

-- ---- traces

abbrev pub SmallTrace : TraceAnswer → Type 0
SmallTrace r = Small r.refusal r.bytes

-- a sheet that is not refused makes few events
events_few : (s : List ℕ) (len : ℕ) → (checked_sheet s len).refusal.number ≡ 0 → length (expected (read_sheet s).sheet len) ≤ step_places * matrix_places
events_few s len e = expected_few (read_sheet s).sheet (sheet_readable s len e).within len

pub traced_small : (s : List ℕ) (len room : ℕ) → SmallTrace (traced s len room)
unfolding traced
traced_small s len room =
    let c = check_small s len in
    pick_case SmallTrace (eqb (checked_sheet s len).refusal.number 0) _ _
    (λ e. pick_case SmallTrace (ltb room (traced_length s len)) _ _ (λ f. (omega arith, omega arith, omega arith))
    (λ f. (omega arith, omega arith, omega (arith, events_few s len (eqb-true _ 0 e)))))
    (λ e. (c.0, c.1, omega arith))

capped_small : (r : Refusal) (count : ℕ) → r.element < 2 ^ 32 → count < 2 ^ 32 → Small (capped r) count
unfolding capped
capped_small r count e f =
    (pick_case (λ (place : ℕ). place < 2 ^ 32) (leb r.place row_most) _ _ (λ l. omega (arith, leb-true r.place row_most l)) (λ l. omega arith), e, f)

verdict_small : (xs ys : List Event) → length xs < 2 ^ 32 → SmallVerdict (verdict_of xs ys)
unfolding verdict_at
verdict_small xs ys h = pick_case SmallVerdict _ Agrees (Differs (common xs ys)) (λ e. tt) (λ e. omega (arith, h, common_most xs ys))

-- the verdict of a replay, its count, and its refusal once its place is one of a row
pub record SmallReplay (r : ReplayAnswer) : Type 0 where
  pub verdict : SmallVerdict r.verdict
  pub answer : Small (capped r.refusal) r.count

pub replayed_small : (s : List ℕ) (len : ℕ) (t : List ℕ) → SmallReplay (replayed s len t)
unfolding replayed
replayed_small s len t =
    pick_case SmallReplay (eqb (checked_sheet s len).refusal.number 0) _ _
    (λ e. let few = events_few s len (eqb-true _ 0 e) in
    pick_case SmallReplay (eqb (read_trace t).refusal.number 0) _ _
    (λ f. record { verdict = verdict_small _ _ (omega (arith, few)); answer = capped_small _ _ (omega arith) (omega (arith, few)) })
    (λ f. record { verdict = omega arith; answer = capped_small _ _ (omega (arith, trace-element t)) (omega arith) }))
    (λ e. record { verdict = omega arith; answer = capped_small _ _ (check_small s len).1 (omega arith) })
