use native.Mathlib.Omega.{arith}
use Prim.Native.Nat.{◌<◌}
use mathlib.Core.Path.{◌≡◌}
use mathlib.Core.Bool.{true, false}
use Rattle.numbers.specs.Laws.Choice.{tests}
use Rattle.tensor_ranges.specs.Layouts.{the_dimension}
use Rattle.tensor_ranges.specs.Laws.Facts.{layout_most, layout_block, layout_size}
use Rattle.dimensions.specs.Dimensions.{fixed}
use Rattle.dimensions.specs.Laws.Tails.{fixed_inside}
use Rattle.dimensions.proofs.Laws.{same_dimension, leading_start, leading_more, leading_stop, leading_end, lead_known}
use Rattle.dimensions.proofs.lead_of.Goals as goal
use Rattle.dimensions.proofs.lead_of.Goals.{After-dimension_at-x}

-- the numbers read are those of dimension d
is_dimension : (c : After-dimension_at-x) → c.dimension_at-x.result ≡ the_dimension c.args.l.dimensions c.loop-d.d
is_dimension c = same_dimension c.args.l c.requires.1 (omega (arith, layout_most c.args.l c.requires.0)) (rw c.from.ensures at c.dimension_at-x.ensures)

pub loop-d-init : goal.loop-d-init
loop-d-init c = leading_start _

pub dimension_at-x-requires : goal.dimension_at-x-requires
dimension_at-x-requires c = omega (arith, layout_most c.args.l c.requires.0)

pub returns-then-not-is_fixed : goal.returns-then-not-is_fixed
returns-then-not-is_fixed c =
    let i = c.loop-d in
    let e = is_dimension (goal.at.returns-then-not-is_fixed c).After-dimension_at-x in
    let f : fixed c.dimension_at-x.result ≡ false = search tests in
    lead_known c.args.l i.d i.start i.invariant (leading_stop c.args.l i.d i.start i.invariant (omega arith) (rw e at f))

pub fixed_part-start-requires : goal.fixed_part-start-requires
fixed_part-start-requires c =
    let e = is_dimension (goal.at.fixed_part-start-requires c).After-dimension_at-x in
    let in-rank : c.loop-d.d < c.args.l.rank = omega arith in
    let f : fixed c.dimension_at-x.result ≡ true = search tests in
    (rw e (layout_block c.args.l c.requires.0 c.loop-d.d in-rank), omega (arith, fixed_inside c.dimension_at-x.result f, (rw (← e) at (layout_size c.args.l c.requires.0 c.loop-d.d in-rank)).most))

pub loop-d-preserved : goal.loop-d-preserved
loop-d-preserved c =
    let i = c.loop-d in
    let e = is_dimension (goal.at.loop-d-preserved c).After-dimension_at-x in
    let f : fixed c.dimension_at-x.result ≡ true = search tests in
    leading_more c.args.l i.d i.start i.invariant (omega arith) (rw e at f) c.fixed_part-start.result (rw e at c.fixed_part-start.ensures.0) c.fixed_part-start.ensures.1

pub returns : goal.returns
returns c =
    let l = c.args.l in
    let end : c.loop-d.d ≡ l.rank = omega arith in
    let w = rw end at c.loop-d.invariant in
    lead_known l l.rank c.loop-d.start w (leading_end l l.rank c.loop-d.start w (omega arith))
