use Rattle.std.proofs.Common.{◌<◌, sym, subst, arith}
use Rattle.registers.specs.Sized.{SizedType}
use Rattle.registers.specs.declared.MatrixType.{MatrixType}
use Rattle.reduces.proofs.Laws.Shapes.{some_rows}
use Rattle.products.specs.Laws.Shapes.{agreed}
use Rattle.whole_steps.specs.Within.{WholeParts}
use Rattle.whole_steps.proofs.whole_block.Goals as goal

pub reduce_block-requires : goal.reduce_block-requires
reduce_block-requires c =
    let s = c in
    let e = c.in-Reduce.is in
    let w = subst WholeParts e s.requires.0.parts in
    let f = sym c.the_type-t.ensures in (
      w.0,
      subst SizedType f (s.requires.1.each _),
      subst (λ (t : MatrixType). 0 < t.rows) f (some_rows _ _ _ _ (rw e at s.requires.2.1)),
      omega (arith, w.1.high),
      omega (arith, w.2.high),
    )

pub multiply_block-requires : goal.multiply_block-requires
multiply_block-requires c =
    let s = c in
    let e = c.in-MultiplyAdd.is in
    let w = subst WholeParts e s.requires.0.parts in
    let ea = c.the_type-ta.ensures in
    let eb = c.the_type-tb.ensures in
    let ec = c.the_type-tc.ensures in (
      (w.0, subst SizedType (sym ea) (s.requires.1.each _)),
      (w.1, subst SizedType (sym eb) (s.requires.1.each _)),
      (w.2, subst SizedType (sym ec) (s.requires.1.each _)),
      rw (ea, eb, ec) (agreed _ _ _ (rw e at s.requires.2.1)),
    )
