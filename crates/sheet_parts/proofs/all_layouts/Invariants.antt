use Prim.Native.Nat.{◌-◌, ◌≤◌}
use mathlib.Core.Path.{◌≡◌}
use lib.ListN.{replicate}
use Rattle.numbers.specs.Lists.{line}
use Rattle.sheet.specs.Sizes.{layout_places}
use Rattle.tensor_ranges.specs.Layouts.{no_layout, the_layout}
use Rattle.sheet_reader.specs.Parts.{sheet_of}
use Rattle.sheet_parts.proofs.all_layouts.Given as goal

abbrev pub invariant-loop-k : goal.invariant-loop-k
invariant-loop-k l = (l.k ≤ l.count) × (l.all ≡ line (replicate layout_places no_layout) 0 (the_layout (sheet_of l.s).tensors.layout) l.k)

abbrev pub decreases-loop-k : goal.decreases-loop-k
decreases-loop-k l = l.count - l.k
