use Prim.Native.Nat.{ℕ, ◌-◌, ◌≤◌}
use mathlib.Core.Path.{◌≡◌}
use lib.ListN.{get_or}
use Rattle.numbers.specs.Lists.{line}
use Rattle.sheet_ranges.specs.Steps.{no_cell}
use Rattle.sheet_reader.specs.Parts.{sheet_of}
use Rattle.sheet_parts.specs.Cells.{no_cells}
use Rattle.sheet_parts.proofs.all_steps.Given as goal

abbrev pub invariant-loop-k : goal.invariant-loop-k
invariant-loop-k l = (l.k ≤ l.given.steps) × (l.all ≡ line no_cells 0 (λ (i : ℕ). get_or (sheet_of l.s).step i no_cell) l.k)

abbrev pub decreases-loop-k : goal.decreases-loop-k
decreases-loop-k l = l.given.steps - l.k
