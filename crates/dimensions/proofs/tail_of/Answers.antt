use native.Mathlib.Omega.{arith}
use Rattle.tensor_ranges.specs.Laws.Facts.{layout_most}
use Rattle.dimensions.specs.Laws.Tails.{lead_most}
use Rattle.dimensions.proofs.Laws.{tail_known, tail_moved, tail_stays}
use Rattle.dimensions.proofs.tail_of.Goals as goal

pub returns-then-fixed-gt0-clause-value : goal.returns-then-fixed-gt0-clause-value
returns-then-fixed-gt0-clause-value c = tail_known c.args.l c.lead_of-fixed.ensures

pub returns-then-fixed-gt0-clause-numbers_after : goal.returns-then-fixed-gt0-clause-numbers_after
returns-then-fixed-gt0-clause-numbers_after c =
    let moved = c.copy_within.ensures in
    tail_moved c.args.l _ _ c.requires.1 c.lead_of-fixed.ensures.0 (omega arith) (omega arith) (omega (arith, lead_most c.args.l, layout_most c.args.l c.requires.0)) moved.len moved.by_index.0 moved.by_index.2

pub returns-else-fixed-gt0-clause-value : goal.returns-else-fixed-gt0-clause-value
returns-else-fixed-gt0-clause-value c = tail_known c.args.l c.lead_of-fixed.ensures

pub returns-else-fixed-gt0-clause-numbers_after : goal.returns-else-fixed-gt0-clause-numbers_after
returns-else-fixed-gt0-clause-numbers_after c = tail_stays c.args.l c.requires.1 c.lead_of-fixed.ensures.0 (omega arith)
