-- Writing the trace that a sheet makes in a memory of a length: refusals as the check gives them, then 19.
use Rattle.std.specs.Prelude.{ℕ, ◌*◌, List, eqb, ltb, length}
use Rattle.std.proofs.lemmas.List.Edits.{sets}
use Rattle.numbers.specs.Choice.{pick}
use Rattle.refusals.specs.Refusals.{room_too_short, refusal_at, not_refused}
use Rattle.refusals.specs.declared.Refusal.{Refusal}
use Rattle.sheet_reader.specs.Reading.{read_sheet}
use Rattle.checking.specs.Checking.{checked_sheet}
use Rattle.traces.specs.Events.{event_length}
use Rattle.traces.specs.Writing.{trace_bytes}
use Rattle.traces.specs.declared.Event.{Event}
use Rattle.expected.specs.Expected.{expected}
use Rattle.tracing.specs.declared.TraceAnswer.{TraceAnswer}

abbrev pub trace_answer : Refusal → ℕ → TraceAnswer
trace_answer r bytes = record { refusal = r; bytes = bytes }

-- the trace of a sheet that is read
abbrev pub traced_events : List ℕ → ℕ → List Event
traced_events s len = expected (read_sheet s).sheet len

-- its bytes: those of a field for each event
abbrev pub traced_length : List ℕ → ℕ → ℕ
traced_length s len = length (traced_events s len) * event_length

unfoldable pub traced : List ℕ → ℕ → ℕ → TraceAnswer
traced s len room =
    pick (eqb (checked_sheet s len).refusal.number 0)
    (pick (ltb room (traced_length s len))
    (trace_answer (refusal_at room_too_short 0 0) 0)
    (trace_answer not_refused (traced_length s len)))
    (trace_answer (checked_sheet s len).refusal 0)

-- the room afterwards: the fields from its start on, every byte past them as before; unchanged where the sheet or the room is refused
unfoldable pub traced_room : List ℕ → ℕ → List ℕ → List ℕ
traced_room s len out =
    pick (eqb (checked_sheet s len).refusal.number 0)
    (pick (ltb (length out) (traced_length s len)) out (sets out 0 (trace_bytes (traced_events s len))))
    out
