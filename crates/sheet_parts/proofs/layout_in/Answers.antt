use mathlib.Core.Path.{sym, ◌∙◌}
use native.Mathlib.Omega.{arith}
use Rattle.fields.specs.Laws.Bounds.{field_in}
use Rattle.sheet_parts.specs.Laws.{layout_place, layout_here, field_short, layout_content}
use Rattle.sheet_parts.proofs.layout_in.Goals as goal

pub offset_bounds-parts-k : goal.offset_bounds-parts-k
offset_bounds-parts-k c = omega (arith, layout_place c.requires.0.1 _ c.requires.1)

pub bounds-parts-k : goal.bounds-parts-k
bounds-parts-k c = omega (arith, layout_place c.requires.0.1 _ c.requires.1)

pub field-requires : goal.field-requires
field-requires c =
    let p = c.requires in
    omega (arith, field_in _ _ _ _ _ _ (layout_here p.0.1 _ p.1).field)

pub returns-in_default : goal.returns-in_default
returns-in_default c =
    let p = c.requires in
    absurd (field_short (layout_here p.0.1 _ p.1).field (sym c.field.ensures ∙ c.in_default.is))

pub layout_at-requires : goal.layout_at-requires
layout_at-requires c =
    let p = c.requires in
    (layout_content (sym c.field.ensures ∙ c.in-Whole.is) (layout_here p.0.1 _ p.1)).0

pub returns : goal.returns
returns c =
    let p = c.requires in
    c.layout_at.ensures
    ∙ (layout_content (sym c.field.ensures ∙ c.in-Whole.is) (layout_here p.0.1 _ p.1)).1
