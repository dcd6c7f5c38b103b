use Rattle.std.proofs.Common.{◌≡◌, refl, ◌∙◌, arith}
use Rattle.registers.specs.Laws.Grids.{rows_none, rows_more, rows_all, block_same}
use Rattle.reduces.proofs.Folding.{quad_part}
use Rattle.reduces.proofs.quad_block.Goals as goal

pub loop-i-init : goal.loop-i-init
loop-i-init c = rows_none _ _ _

pub loop-i-preserved : goal.loop-i-preserved
loop-i-preserved c = rows_more _ _ _ _ _ c.loop-i.invariant c.quad_row.ensures (λ j l. refl)

pub returns : goal.returns
returns c =
    let a = c.args in
    let e : c.loop-i.i ≡ a.rows = omega arith in
    rw (e, c.from-n.ensures) at c.loop-i.invariant
    ∙ rows_all _ _ _ _
    ∙ block_same _ _ _ _ _ (λ i j l h. quad_part a.elements.now a.source a.t a.combine i j c.place_of-first.result (omega (arith, c.place_of-first.ensures)))
