use Rattle.std.proofs.Common.{◌≡◌, min}
use Rattle.view_indices.specs.Indices.{row_major, span_of}
use Rattle.view_indices.proofs.row_major.Given as goal

abbrev pub invariant-loop-j : goal.invariant-loop-j
invariant-loop-j l = l.product ≡ row_major (span_of l.l) (min l.j l.j-end) l.i
