use Prim.Native.Nat.{◌+◌, ◌*◌, ◌≤◌}
use mathlib.Core.Path.{◌≡◌}
use lib.ListN.{length}
use lib.Seq.{sets}
use Rattle.sheet.specs.Sizes.{matrix_places}
use Rattle.sheet_reader.specs.Parts.{sheet_of}
use Rattle.accepted.specs.Passes.{pass_rest}
use Rattle.accepted.specs.Laws.Rests.{Rest}
use Rattle.traces.specs.Events.{event_length}
use Rattle.traces.specs.Writing.{trace_bytes}
use Rattle.expected.specs.Expected.{events_at, expected}
use Rattle.tracing.proofs.write_trace.Given as goal

abbrev pub invariant-loop-k : goal.invariant-loop-k
invariant-loop-k l =
    Rest (sheet_of l.s) l.memory l.k l.types
    × (l.at + length (pass_rest (events_at (sheet_of l.s) l.memory) (sheet_of l.s) l.memory l.k l.types) * event_length ≤ length l.initial.out)
    × (sets l.out l.at (trace_bytes (pass_rest (events_at (sheet_of l.s) l.memory) (sheet_of l.s) l.memory l.k l.types)) ≡ sets l.initial.out 0 (trace_bytes (expected (sheet_of l.s) l.memory)))
    × (length l.entries ≡ matrix_places)
