use native.Mathlib.Omega.{arith}
use Rattle.spans.specs.Laws.Splits.{split_most}
use Rattle.spans.proofs.Laws.{dividing_start, dividing_more, dividing_end}
use Rattle.spans.proofs.span_coordinates.Goals as goal

pub loop-d-init : goal.loop-d-init
loop-d-init c = rw (c.min-d.ensures, c.from.ensures) (dividing_start _ _)

pub overflow_add-divisions : goal.overflow_add-divisions
overflow_add-divisions c =
    rw c.split_by-s.ensures (omega (arith, c.loop-d.invariant.seldom, split_most c.from-in-loop-d.result c.loop-d.left))

pub loop-d-preserved : goal.loop-d-preserved
loop-d-preserved c = rw (c.split_by-s.ensures, c.from-in-loop-d.ensures) (dividing_more _ _ _ _ _ _ c.loop-d.invariant (omega arith))

pub returns : goal.returns
returns c = dividing_end _ _ _ _ _ _ c.loop-d.invariant (omega arith)
