use Rattle.std.specs.Prelude.{◌<◌, ◌≡◌, take}
use Rattle.std.proofs.Common.{arith}
use Rattle.std.proofs.lemmas.List.{length-take, get_or-take}
use Rattle.tensor_ranges.specs.Views.{the_view}
use Rattle.tensor_ranges.specs.Laws.Facts.{view_most}
use Rattle.fields.specs.Laws.Puts.{no_turns, one_turn, turn_fits, all_turns}
use Rattle.sheet_writer.proofs.put_views.Goals as goal
use Rattle.sheet_writer.proofs.put_views.Goals.{In-loop-v}

pub loop-v-init : goal.loop-v-init
loop-v-init c = no_turns _ _ _

-- one more is given
given : (c : In-loop-v) → c.loop-v.v-index < c.args.count
given c = omega (arith, length-take c.args.count c.args.vs)

the : (c : In-loop-v) → the_view (take c.args.count c.args.vs) c.loop-v.v-index ≡ the_view c.args.vs c.loop-v.v-index
the c = get_or-take _ _ _ _ (given c)

pub put_view-p-requires : goal.put_view-p-requires
put_view-p-requires c =
    let w = (goal.at.put_view-p-requires c).In-loop-v in
    let k = c.loop-v.v-index in
    rw (the w) (view_most (the_view c.args.vs k) (c.requires.1.given k (given w)), turn_fits _ _ _ _ c.loop-v.invariant c.requires.2 (given w))

pub loop-v-preserved : goal.loop-v-preserved
loop-v-preserved c =
    let e = the (goal.at.loop-v-preserved c).In-loop-v in
    let p = c.put_view-p.ensures in
    one_turn _ _ _ c.loop-v.invariant (rw e at p.0) (rw e at p.1)

pub returns : goal.returns
returns c = all_turns _ _ _ _ c.loop-v.invariant (omega (arith, length-take c.args.count c.args.vs)) (omega (arith, length-take c.args.count c.args.vs))
