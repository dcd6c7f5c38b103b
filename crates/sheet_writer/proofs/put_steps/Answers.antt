use Rattle.std.specs.Prelude.{◌<◌, ◌≡◌, take, get_or}
use Rattle.std.proofs.Common.{arith}
use Rattle.std.proofs.lemmas.List.{length-take, get_or-take}
use Rattle.sheet_ranges.specs.Steps.{no_cell}
use Rattle.fields.specs.Laws.Puts.{no_turns, one_turn, turn_fits, all_turns}
use Rattle.sheet_writer.proofs.put_steps.Goals as goal
use Rattle.sheet_writer.proofs.put_steps.Goals.{In-loop-c}

pub loop-c-init : goal.loop-c-init
loop-c-init c = no_turns _ _ _

-- one more is given
given : (c : In-loop-c) → c.loop-c.c-index < c.args.count
given c = omega (arith, length-take c.args.count c.args.cs)

the : (c : In-loop-c) → get_or (take c.args.count c.args.cs) c.loop-c.c-index no_cell ≡ get_or c.args.cs c.loop-c.c-index no_cell
the c = get_or-take _ _ _ _ (given c)

pub put_step-p-requires : goal.put_step-p-requires
put_step-p-requires c =
    let w = (goal.at.put_step-p-requires c).In-loop-c in
    rw (the w) (turn_fits _ _ _ _ c.loop-c.invariant c.requires.1 (given w))

pub loop-c-preserved : goal.loop-c-preserved
loop-c-preserved c =
    let e = the (goal.at.loop-c-preserved c).In-loop-c in
    let p = c.put_step-p.ensures in
    one_turn _ _ _ c.loop-c.invariant (rw e at p.0) (rw e at p.1)

pub returns : goal.returns
returns c = all_turns _ _ _ _ c.loop-c.invariant (omega (arith, length-take c.args.count c.args.cs)) (omega (arith, length-take c.args.count c.args.cs))
