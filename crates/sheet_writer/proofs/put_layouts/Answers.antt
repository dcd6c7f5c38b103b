use Rattle.std.specs.Prelude.{◌<◌, ◌≡◌, take}
use Rattle.std.proofs.Common.{arith}
use Rattle.std.proofs.lemmas.List.{length-take, get_or-take}
use Rattle.tensor_ranges.specs.Layouts.{the_layout}
use Rattle.tensor_ranges.specs.Laws.Facts.{layout_most}
use Rattle.fields.specs.Laws.Puts.{no_turns, one_turn, turn_fits, all_turns}
use Rattle.sheet_writer.proofs.put_layouts.Goals as goal
use Rattle.sheet_writer.proofs.put_layouts.Goals.{In-loop-l}

pub loop-l-init : goal.loop-l-init
loop-l-init c = no_turns _ _ _

-- one more is given
given : (c : In-loop-l) → c.loop-l.l-index < c.args.count
given c = omega (arith, length-take c.args.count c.args.ls)

the : (c : In-loop-l) → the_layout (take c.args.count c.args.ls) c.loop-l.l-index ≡ the_layout c.args.ls c.loop-l.l-index
the c = get_or-take _ _ _ _ (given c)

pub put_layout-p-requires : goal.put_layout-p-requires
put_layout-p-requires c =
    let w = (goal.at.put_layout-p-requires c).In-loop-l in
    let k = c.loop-l.l-index in
    rw (the w) (layout_most (the_layout c.args.ls k) (c.requires.1.given k (given w)), turn_fits _ _ _ _ c.loop-l.invariant c.requires.2 (given w))

pub loop-l-preserved : goal.loop-l-preserved
loop-l-preserved c =
    let e = the (goal.at.loop-l-preserved c).In-loop-l in
    let p = c.put_layout-p.ensures in
    one_turn _ _ _ c.loop-l.invariant (rw e at p.0) (rw e at p.1)

pub returns : goal.returns
returns c = all_turns _ _ _ _ c.loop-l.invariant (omega (arith, length-take c.args.count c.args.ls)) (omega (arith, length-take c.args.count c.args.ls))
