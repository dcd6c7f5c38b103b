use Prim.Native.Nat.{ℕ, ◌+◌, ◌-◌}
use mathlib.Core.Path.{◌≡◌, ap, ◌∙◌}
use Rattle.tensor_ranges.specs.Layouts.{the_dimension}
use Rattle.tensor_ranges.specs.Laws.Facts.{layout_most}
use Rattle.dimensions.specs.Dimensions.{lead}
use Rattle.addressing.specs.Rows.{last_of}
use Rattle.addressing.proofs.Laws.{plan_numbers, plan_tail, tail_whole, last_span, last_size}
use Rattle.addressing.proofs.Loops.{same_dimension}
use native.Mathlib.Omega.{arith}
use Rattle.addressing.proofs.rows.last_dimension.Goals as goal

pub dimension_at-requires : goal.dimension_at-requires
dimension_at-requires c =
    let p = c.args.p in
    let l = p.access.layout in
    omega (arith, tail_whole l p.tail (plan_tail p c.requires.0), layout_most l c.requires.0.valid.sized.layout, c.requires.2)

pub returns : goal.returns
returns c =
    let p = c.args.p in
    let l = p.access.layout in
    let ok = c.requires.0.valid.sized.layout in
    let whole = tail_whole l p.tail (plan_tail p c.requires.0) in
    let q : lead l + p.tail.rank - 1 ≡ l.rank - 1 = omega (arith, whole) in
    let e : c.dimension_at.result ≡ last_of l =
    same_dimension l ok (c.requires.1 ∙ plan_numbers p c.requires.0) c.requires.2 (omega (arith, whole)) (rw c.from.ensures at c.dimension_at.ensures)
    ∙ ap (λ (n : ℕ). the_dimension l.dimensions n) q in
    (e, rw e (last_span l ok), rw e (last_size l ok))
