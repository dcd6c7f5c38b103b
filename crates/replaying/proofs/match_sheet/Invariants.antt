use Prim.Native.Nat.{◌-◌, ◌*◌, ◌≤◌}
use mathlib.Core.Path.{◌≡◌}
use lib.ListN.{length}
use Rattle.sheet.specs.Sizes.{matrix_places}
use Rattle.sheet_reader.specs.Parts.{sheet_of}
use Rattle.accepted.specs.Passes.{pass_rest}
use Rattle.traces.specs.Numbered.{events_in}
use Rattle.expected.specs.Expected.{events_at, expected}
use Rattle.replaying.specs.Matching.{matched, match_all}
use Rattle.replaying.proofs.Laws.{Going}
use Rattle.replaying.proofs.match_sheet.Given as goal

abbrev pub invariant-loop-k : goal.invariant-loop-k
invariant-loop-k l =
    (l.k ≤ l.given.steps)
    × Going (sheet_of l.s) l.memory l.k l.types
    × ((l.m.index ≤ l.m.count) × (l.m.count ≤ l.k * matrix_places))
    × (match_all (events_in l.trace) l.m (pass_rest (events_at (sheet_of l.s) l.memory) (sheet_of l.s) l.memory l.k l.types) ≡ match_all (events_in l.trace) (matched 0 0) (expected (sheet_of l.s) l.memory))
    × (length l.entries ≡ matrix_places)

abbrev pub decreases-loop-k : goal.decreases-loop-k
decreases-loop-k l = l.given.steps - l.k
