use Rattle.std.proofs.Common.{◌≡◌, ◌∙◌, arith}
use Rattle.registers.specs.Laws.Grids.{rows_none, rows_more, rows_all, block_same}
use Rattle.products.proofs.Multiplication.{row_plus, plus_same}
use Rattle.products.proofs.product.Goals as goal

pub loop-i-init : goal.loop-i-init
loop-i-init c = rows_none _ _ _

pub loop-i-preserved : goal.loop-i-preserved
loop-i-preserved c =
    let i = c.loop-i in
    let a = c.args in
    rows_more _ _ _ _ _ i.invariant c.product_row.ensures
    (λ j l. row_plus a.elements.now a.ta.kind a.tc.kind c.place_of-first.result c.place_of-base.result c.from-inner.result c.from-columns.result a.y.now i.i j _ _ c.loop-i-test.array_long (omega arith) c.residues.ensures)

pub returns : goal.returns
returns c =
    let a = c.args in
    let e : c.loop-i.i ≡ a.tc.rows = omega arith in
    rw (e, c.from-columns.ensures, c.from-inner.ensures) at c.loop-i.invariant
    ∙ rows_all _ _ _ _
    ∙ block_same _ _ _ _ _ (λ i j l h. plus_same a.elements.now a.a a.ta a.y.now a.c a.tc i j _ _ c.place_of-first.ensures c.place_of-base.ensures)
