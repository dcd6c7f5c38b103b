use Rattle.std.proofs.Common.{◌≡◌}
use Rattle.registers.specs.Laws.Grids.{rows_of}
use Rattle.products.proofs.Multiplication.{placed_plus}
use Rattle.products.proofs.product.Given as goal

abbrev pub invariant-loop-i : goal.invariant-loop-i
invariant-loop-i l = l.out ≡ rows_of l.initial.out l.columns (placed_plus l.elements l.ta.kind l.tc.kind l.first l.base l.inner l.columns l.y) l.i
