use Rattle.spans.specs.Spans.{divided}
use Rattle.view_indices.specs.Indices.{span_of}
use Rattle.spans.proofs.Laws.{Dividing}
use Rattle.spans.proofs.span_coordinates.Given as goal

abbrev pub invariant-loop-d : goal.invariant-loop-d
invariant-loop-d l = Dividing (span_of l.l) (divided l.l l.index) l.coordinates l.divisions l.left l.d
