use Prim.Native.Nat.{◌-◌, ◌≤◌}
use mathlib.Core.Path.{◌≡◌}
use lib.ListN.{replicate}
use Rattle.numbers.specs.Lists.{line}
use Rattle.sheet.specs.Sizes.{view_places}
use Rattle.tensor_ranges.specs.Views.{no_view, the_view}
use Rattle.sheet_reader.specs.Parts.{sheet_of}
use Rattle.sheet_parts.proofs.all_views.Given as goal

abbrev pub invariant-loop-k : goal.invariant-loop-k
invariant-loop-k l = (l.k ≤ l.count) × (l.all ≡ line (replicate view_places no_view) 0 (the_view (sheet_of l.s).tensors.view) l.k)

abbrev pub decreases-loop-k : goal.decreases-loop-k
decreases-loop-k l = l.count - l.k
