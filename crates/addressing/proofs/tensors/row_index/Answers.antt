use mathlib.Core.Path.{refl}
use native.Mathlib.Omega.{arith}
use Rattle.tensor_ranges.specs.Laws.Facts.{layout_most}
use Rattle.clamps.specs.declared.Clamped.TheVariants.{Refused, Discarded, Filled}
use Rattle.addressing.proofs.Loops.{Turn, turn, turn_size, turn_block, turn_rest, turn_fits, turn_more, turn_stop, tailing_start, tailing_end}
use Rattle.addressing.proofs.tensors.row_index.Goals as goal
use Rattle.addressing.proofs.tensors.row_index.Goals.{After-split_by-s}

-- a turn at the last of the dimensions that are left
turned : (c : After-split_by-s)
    → Turn c.args.load c.args.l c.requires.0 c.args.rank c.args.index c.loop-d.d c.loop-d.left c.loop-d.sum c.dimension_at-x.result c.split_by-s.result
turned c = turn _ _ _ _ _ c.requires.1 c.loop-d.invariant (omega arith) c.dimension_at-x.ensures c.wide.ensures.0 c.split_by-s.ensures

pub loop-d-init : goal.loop-d-init
loop-d-init c = tailing_start _ c.args.l c.requires.0 _ _ c.args.tail c.requires.2 c.requires.3 c.requires.4

pub dimension_at-x-requires : goal.dimension_at-x-requires
dimension_at-x-requires c = omega (arith, layout_most c.args.l c.requires.0, c.loop-d.invariant.few)

pub part-requires : goal.part-requires
part-requires c = let t = turned c in (turn_size _ _ _ _ _ t, turn_block _ _ _ _ _ t, turn_rest _ _ _ _ _ t)

pub returns-in-Refused : goal.returns-in-Refused
returns-in-Refused c = (turn_stop _ _ _ _ _ (turned (goal.at.returns-in-Refused c).After-split_by-s) Refused (λ a. refl) refl (λ z q. q) c.in-Refused.ensures.0, tt)

pub returns-in-Discarded : goal.returns-in-Discarded
returns-in-Discarded c = (turn_stop _ _ _ _ _ (turned (goal.at.returns-in-Discarded c).After-split_by-s) Discarded (λ a. refl) refl (λ z q. q) c.in-Discarded.ensures.0, tt)

pub returns-in-Filled : goal.returns-in-Filled
returns-in-Filled c = (turn_stop _ _ _ _ _ (turned (goal.at.returns-in-Filled c).After-split_by-s) Filled (λ a. refl) refl (λ z q. q) c.in-Filled.ensures.0, tt)

pub overflow_add-sum : goal.overflow_add-sum
overflow_add-sum c = omega (arith, turn_fits _ _ _ _ _ (turned (goal.at.overflow_add-sum c).After-split_by-s) c.in-At.y c.in-At.ensures.1)

pub loop-d-preserved : goal.loop-d-preserved
loop-d-preserved c = turn_more _ _ _ _ _ (turned (goal.at.loop-d-preserved c).After-split_by-s) c.in-At.y c.in-At.ensures.1 c.in-At.ensures.0

pub returns : goal.returns
returns c = tailing_end c.args.load c.args.l c.requires.0 c.args.rank c.args.index c.loop-d.d c.loop-d.left c.loop-d.sum c.loop-d.invariant (omega arith)
