use mathlib.Core.Path.{◌≡◌}
use Rattle.sheet_reader.specs.Parts.{sheet_of}
use Rattle.accepted.specs.Passes.{types_at}
use Rattle.accepted.specs.Laws.Rests.{Rest}
use Rattle.explaining.proofs.types_at.Given as goal

abbrev pub invariant-loop-k : goal.invariant-loop-k
invariant-loop-k l = (l.types ≡ types_at (sheet_of l.s) l.memory l.k) × Rest (sheet_of l.s) l.memory l.k l.types
