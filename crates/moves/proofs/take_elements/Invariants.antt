use mathlib.Core.Path.{◌≡◌}
use Rattle.numbers.specs.Orders.{in_order}
use Rattle.counts.specs.Counts.{more_placed}
use Rattle.counts.specs.declared.Counts.{Counts}
use Rattle.transfers.specs.Acts.{state}
use Rattle.moves.specs.Elements.{taking}
use Rattle.moves.proofs.take_elements.Given as goal

abbrev pub invariant-loop-i : goal.invariant-loop-i
invariant-loop-i l = (c : Counts) → state l.elements l.memory (more_placed c l.i) ≡ in_order (taking l.size l.register l.first l.byte l.up l.down) l.i (state l.initial.elements l.memory c)
