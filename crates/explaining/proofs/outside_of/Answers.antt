use Rattle.tensor_ranges.specs.Laws.Facts.{layout_most, layout_span}
use Rattle.spans.specs.Theorems.{divided_coordinates}
use Rattle.spans.specs.Laws.Coordinates.{coordinate_below}
use native.Mathlib.Omega.{arith}
use Rattle.explaining.proofs.outside_of.Goals as goal

pub first_outside-requires : goal.first_outside-requires
first_outside-requires c =
    let s = c in
    let l = s.args.p.access.layout in
    let ok = s.requires.planned.0.valid.sized.layout in
    let i = c.in-Index.i in (
      ok,
      λ d h. rw (c.span_coordinates-d.ensures, divided_coordinates l ok i)
          (omega (arith, coordinate_below l i d (layout_most l ok) h (layout_span l ok d h).some, (layout_span l ok d h).most)),
    )
