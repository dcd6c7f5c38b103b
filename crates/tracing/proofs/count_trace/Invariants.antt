use Prim.Native.Nat.{◌+◌, ◌*◌, ◌≤◌}
use mathlib.Core.Path.{◌≡◌}
use lib.ListN.{length}
use Rattle.sheet.specs.Sizes.{matrix_places}
use Rattle.sheet_reader.specs.Parts.{sheet_of}
use Rattle.accepted.specs.Passes.{pass_rest}
use Rattle.accepted.specs.Laws.Rests.{Rest}
use Rattle.expected.specs.Expected.{events_at, expected}
use Rattle.tracing.proofs.count_trace.Given as goal

abbrev pub invariant-loop-k : goal.invariant-loop-k
invariant-loop-k l =
    Rest (sheet_of l.s) l.memory l.k l.types × (l.count ≤ l.k * matrix_places)
    × (l.count + length (pass_rest (events_at (sheet_of l.s) l.memory) (sheet_of l.s) l.memory l.k l.types) ≡ length (expected (sheet_of l.s) l.memory))
