use Rattle.std.proofs.Common.{◌≡◌, refl, ◌∙◌, arith}
use Rattle.registers.specs.Laws.Grids.{rows_none, rows_more, rows_all}
use Rattle.registers.proofs.blocks.spread.Goals as goal

pub loop-i-init : goal.loop-i-init
loop-i-init c = rows_none _ _ _

pub loop-i-preserved : goal.loop-i-preserved
loop-i-preserved c =
    let e : c.loop-j.j ≡ c.args.columns = omega arith in
    rows_more _ _ _ _ _ c.loop-i.invariant (rw e at c.loop-j.invariant) (λ j l. refl)

pub returns : goal.returns
returns c = let e : c.loop-i.i ≡ c.args.rows = omega arith in rw e at c.loop-i.invariant ∙ rows_all _ _ _ _
