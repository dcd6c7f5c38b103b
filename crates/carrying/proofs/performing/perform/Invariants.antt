use Prim.Native.Nat.{◌-◌, ◌≤◌}
use mathlib.Core.Path.{◌≡◌}
use lib.ListN.{length}
use Rattle.sheet.specs.Sizes.{matrix_places}
use Rattle.sheet_reader.specs.Parts.{sheet_of}
use Rattle.transfers.specs.Acts.{state}
use Rattle.carrying.specs.Steps.{machine_of}
use Rattle.carrying.specs.Carrying.{started}
use Rattle.carrying.specs.Laws.Loops.{Ready}
use Rattle.carrying.proofs.performing.perform.Given as goal

abbrev pub invariant-loop-k : goal.invariant-loop-k
invariant-loop-k l = (l.k ≤ l.given.steps) × (length l.entries ≡ matrix_places) × Ready ((sheet_of l.s).steps - l.k) (sheet_of l.s) l.k (machine_of l.types (state l.elements l.memory l.counts)) (started l.initial.memory)

abbrev pub decreases-loop-k : goal.decreases-loop-k
decreases-loop-k l = l.given.steps - l.k
