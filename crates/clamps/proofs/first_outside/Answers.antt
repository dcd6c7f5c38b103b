use Prim.Native.Nat.{◌+◌, ◌-◌}
use mathlib.Core.Path.{◌≡◌, sym, ◌∙◌}
use Rattle.outcomes.specs.declared.Side.{Side}
use Rattle.tensor_ranges.specs.Laws.Facts.{layout_size}
use Rattle.clamps.proofs.Laws.Sides.{outside_end}
use Rattle.clamps.specs.Sides.{side_at, named, outside_from, first_outside}
use Rattle.clamps.proofs.Laws.{look_start, look_on}
use Rattle.clamps.proofs.first_outside.Goals as goal
use Rattle.clamps.proofs.first_outside.Goals.{After-clamp}

-- a turn, by the side that rule 4 tells
turned : (c : After-clamp) (s : Side) → c.clamp.result.side ≡ s
    → named c.loop-d.d s (outside_from (side_at c.args.l c.args.coordinates) (c.loop-d.d + 1) (c.args.l.rank - (c.loop-d.d + 1))) ≡ first_outside c.args.l c.args.coordinates
turned c s e =
    let there = c.from-place.ensures in
    look_on _ _ _ c.loop-d-test.true c.loop-d.invariant c.args.load (rw there at c.wide.ensures.0) (rw there at c.shifted-c.ensures) (rw there at c.wide-in-loop-d.ensures.0) c.clamp.ensures e

pub loop-d-init : goal.loop-d-init
loop-d-init c = look_start _ _

pub shifted-c-requires : goal.shifted-c-requires
shifted-c-requires c = (rw c.from-place.ensures (c.requires.1 c.loop-d.d c.loop-d-test.true), c.wide.ensures.1)

pub clamp-requires : goal.clamp-requires
clamp-requires c =
    let size = layout_size c.args.l c.requires.0 c.loop-d.d c.loop-d-test.true in
    rw (c.wide-in-loop-d.ensures.0, c.from-place.ensures) (size.some, size.most)

pub returns-in-Below : goal.returns-in-Below
returns-in-Below c = turned (goal.at.returns-in-Below c).After-clamp _ c.in-Below.is

pub returns-in-Above : goal.returns-in-Above
returns-in-Above c = turned (goal.at.returns-in-Above c).After-clamp _ c.in-Above.is

pub loop-d-preserved : goal.loop-d-preserved
loop-d-preserved c = turned (goal.at.loop-d-preserved c).After-clamp _ c.in-Inside.is

pub returns : goal.returns
returns c = sym (outside_end (side_at c.args.l c.args.coordinates) _ _ c.loop-d-test.false) ∙ c.loop-d.invariant
