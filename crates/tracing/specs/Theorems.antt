-- What was written is a trace: the one that the sheet makes, twelve bytes an event.
use Rattle.std.specs.Prelude.{ℕ, ◌+◌, ◌*◌, ◌≤◌, ◌≡◌, List, eqb, ltb, take, drop}
use Rattle.std.proofs.Math.Path.{refl}
use Rattle.std.proofs.Common.{ap, ◌∙◌, arith, take_at}
use borrow.Author.Tests.{eqb-true, eqb-false, eq-eqb, ltb-false, le-ltb}
use Rattle.std.proofs.Math.ListN.{length}
use Rattle.std.proofs.lemmas.List.Edits.{sets-eq}
use Rattle.numbers.specs.Choice.{pick}
use Rattle.numbers.specs.Laws.Choice.{pick_case}
use Rattle.refusals.specs.Refusals.{not_refused}
use Rattle.sheet_reader.specs.Reading.{read_sheet}
use Rattle.checking.specs.Checking.{checked_sheet}
use Rattle.traces.specs.Events.{event_length}
use Rattle.traces.specs.Reading.{trace, read_trace}
use Rattle.traces.specs.Writing.{trace_bytes}
use Rattle.traces.proofs.Laws.Writing.{length_trace}
use Rattle.traces.proofs.Theorems.{trace_back}
use Rattle.expected.specs.Laws.Ascending.{expected_ascends}
use Rattle.tracing.specs.Tracing.{traced_events, traced_length, traced, traced_room}
use Rattle.tracing.specs.declared.TraceAnswer.{TraceAnswer}

-- a trace that was written into a room: the sheet is not refused, and the room holds the trace
pub record Traced (s : List ℕ) (len room : ℕ) (r : TraceAnswer) : Type 0 where
  pub accepted : (checked_sheet s len).refusal.number ≡ 0
  pub fits : traced_length s len ≤ room
  pub bytes : r.bytes ≡ length (traced_events s len) * event_length

module _ (s : List ℕ) (len : ℕ) (out : List ℕ) (h : (traced s len (length out)).refusal.number ≡ 0) where
  pub is_traced : Traced s len (length out) (traced s len (length out))
  unfolding traced
  is_traced =
      pick_case P (eqb (checked_sheet s len).refusal.number 0) _ _
      (λ a. pick_case P (ltb (length out) (traced_length s len)) _ _
      (λ b g. absurd (omega arith))
      (λ b g. record { accepted = eqb-true (checked_sheet s len).refusal.number 0 a; fits = ltb-false _ _ b; bytes = refl }))
      (λ a g. absurd (eqb-false (checked_sheet s len).refusal.number 0 a g)) h
    where
      P : TraceAnswer → Type 0
      P r = r.refusal.number ≡ 0 → Traced s len (length out) r

  -- the bytes that were written
  the_bytes : take (traced s len (length out)).bytes (traced_room s len out) ≡ trace_bytes (traced_events s len)
  unfolding traced_room pick
  the_bytes =
      let t = is_traced in
      let vs = trace_bytes (traced_events s len) in
      let long = length_trace (traced_events s len) in
      rw (t.bytes, eq-eqb (checked_sheet s len).refusal.number 0 t.accepted, le-ltb (length out) (traced_length s len) t.fits, ← long)
      (rw (sets-eq vs out 0 (omega (arith, t.fits, long))) (take_at vs (drop (0 + length vs) out) (length vs) refl))

  -- read as a trace they are not refused, and say every outcome of the sheet's loads and stores.
  pub traced_reads : read_trace (take (traced s len (length out)).bytes (traced_room s len out)) ≡ trace not_refused (traced_events s len)
  traced_reads = ap read_trace the_bytes ∙ trace_back (traced_events s len) (expected_ascends (read_sheet s).sheet len)
