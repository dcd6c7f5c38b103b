use Rattle.std.proofs.Common.{◌+◌, ◌*◌, refl, ◌∙◌, arith}
use Rattle.sheet.specs.declared.ReduceMode.TheVariants.{Row, Column, Both}
use Rattle.registers.specs.Laws.Grids.{block_same}
use Rattle.reduces.proofs.Folding.{fold_part, part_at_lem}
use Rattle.reduces.proofs.reduce_block.Goals as goal

pub returns-in-Row : goal.returns-in-Row
returns-in-Row c =
    let a = c.args in
    let p = c.place_of-first in
    rw c.in-Row.is
    (c.spread.ensures
    ∙ block_same _ _ _ _ _ (λ i j l h.
    part_at_lem a.elements.now a.source a.t Row a.combine i j p.result a.t.columns 1 _ a.rows i (0 + i * 1 + j * 0)
    (rw c.from-n.ensures at c.fold_parts-values.ensures) (omega arith) l (omega arith) refl (λ u. omega (arith, p.ensures))))

pub returns-in-Column : goal.returns-in-Column
returns-in-Column c =
    let a = c.args in
    let p = c.place_of-first in
    rw c.in-Column.is
    (c.spread-in-Column.ensures
    ∙ block_same _ _ _ _ _ (λ i j l h.
    part_at_lem a.elements.now a.source a.t Column a.combine i j p.result 1 a.t.columns _ a.columns j (0 + i * 0 + j * 1)
    (rw (c.from-n.ensures, c.from-m.ensures) at c.fold_parts-values-in-Column.ensures) (omega arith) h (omega arith) refl (λ u. omega (arith, p.ensures))))

pub returns-in-Both : goal.returns-in-Both
returns-in-Both c =
    let a = c.args in
    let p = c.place_of-first in
    rw c.in-Both.is
    (c.fill_block.ensures
    ∙ block_same _ _ _ _ _ (λ i j l h. rw (c.from-n.ensures, c.from-m.ensures) at c.fold-value.ensures ∙ fold_part a.elements.now a.source a.t Both a.combine i j p.result 1 _ refl (λ u. omega (arith, p.ensures))))
