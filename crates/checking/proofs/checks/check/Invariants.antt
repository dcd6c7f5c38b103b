use Prim.Native.Nat.{◌-◌, ◌*◌, ◌≤◌}
use Rattle.sheet_reader.specs.Parts.{sheet_of}
use mathlib.Core.Path.{◌≡◌}
use lib.ListN.{length}
use Rattle.sheet.specs.Sizes.{matrix_places}
use Rattle.registers.specs.Sized.{Sized}
use Rattle.checking.specs.Checking.{checked_from, checked}
use Rattle.checking.proofs.checks.check.Given as goal

abbrev pub invariant-loop-k : goal.invariant-loop-k
invariant-loop-k l =
    (l.k ≤ l.given.steps) × Sized l.types × (l.count ≤ l.k * matrix_places) × (length l.entries ≡ matrix_places)
    × (checked_from ((sheet_of l.s).steps - l.k) (sheet_of l.s) l.memory l.k l.types l.count ≡ checked (sheet_of l.s) l.memory)

abbrev pub decreases-loop-k : goal.decreases-loop-k
decreases-loop-k l = l.given.steps - l.k
