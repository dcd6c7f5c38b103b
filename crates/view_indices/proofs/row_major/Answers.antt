use Prim.Native.Nat.{◌+◌}
use Rattle.std.proofs.Common.{min}
use mathlib.Core.Path.{◌≡◌, sym, ◌∙◌}
use native.Mathlib.Nat.{mul-le-mul}
use native.Mathlib.Omega.{arith}
use Rattle.tensor_ranges.specs.Laws.Facts.{layout_some, layout_most, layout_span}
use Rattle.view_indices.proofs.Laws.{row_major_past, row_major_more, row_major_most}
use Rattle.view_indices.specs.Indices.{row_major, span_of}
use Rattle.view_indices.proofs.row_major.Goals as goal

pub loop-j-init : goal.loop-j-init
loop-j-init c = sym (row_major_past _ _ _ (omega arith))

pub bounds-l-j : goal.bounds-l-j
bounds-l-j c = omega (arith, layout_most c.args.l c.requires.0)

pub overflow_mul-product : goal.overflow_mul-product
overflow_mul-product c =
    let l = c.args.l in
    let ok = c.requires.0 in
    let j = c.loop-j.j in
    let e : min j c.from-j-end.result ≡ j = omega arith in
    rw (c.loop-j.invariant, c.from-product.ensures, e)
    (omega (
      arith,
      mul-le-mul
          (row_major_most (span_of l) c.args.i j (omega arith) (omega (arith, layout_most l ok)) (λ k h. (layout_span l ok k (omega arith)).most))
          (layout_span l ok j (omega arith)).most,
    ))

pub loop-j-preserved : goal.loop-j-preserved
loop-j-preserved c =
    let j = c.loop-j.j in
    let here : min j c.from-j-end.result ≡ j = omega arith in
    let next : min (j + 1) c.from-j-end.result ≡ j + 1 = omega arith in
    rw (c.loop-j.invariant, c.from-product.ensures, here, next) (sym (row_major_more _ _ _ (omega arith)))

pub returns : goal.returns
returns c =
    let l = c.args.l in
    let ok = c.requires.0 in
    let end : min c.loop-j.j c.from-j-end.result ≡ l.rank = omega arith in
    let e : c.loop-j.product ≡ row_major (span_of l) l.rank c.args.i = c.loop-j.invariant ∙ rw end in
    (e, rw e (row_major_most (span_of l) c.args.i l.rank (layout_some l ok) (layout_most l ok) (λ k h. (layout_span l ok k h).most)))
