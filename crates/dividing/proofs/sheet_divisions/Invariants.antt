use Prim.Native.Nat.{◌+◌, ◌*◌, ◌≤◌}
use mathlib.Core.Path.{◌≡◌}
use Rattle.sheet.specs.Sizes.{matrix_places, rank_places}
use Rattle.sheet_reader.specs.Parts.{sheet_of}
use Rattle.accepted.specs.Passes.{pass_rest}
use Rattle.accepted.specs.Laws.Rests.{Rest}
use Rattle.dividing.specs.Divisions.{divisions_at, divisions, total}
use Rattle.dividing.proofs.sheet_divisions.Given as goal

abbrev pub invariant-loop-k : goal.invariant-loop-k
invariant-loop-k l =
    Rest (sheet_of l.s) l.memory l.k l.types × (l.sum ≤ l.k * (matrix_places * rank_places))
    × (l.sum + total (pass_rest (divisions_at (sheet_of l.s) l.memory) (sheet_of l.s) l.memory l.k l.types) ≡ total (divisions (sheet_of l.s) l.memory))
