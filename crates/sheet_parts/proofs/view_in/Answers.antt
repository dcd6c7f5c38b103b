use mathlib.Core.Path.{sym, ◌∙◌}
use native.Mathlib.Omega.{arith}
use Rattle.fields.specs.Laws.Bounds.{field_in}
use Rattle.sheet_parts.specs.Laws.{view_place, view_here, field_short, view_content}
use Rattle.sheet_parts.proofs.view_in.Goals as goal

pub overflow_add-c : goal.overflow_add-c
overflow_add-c c = omega (arith, view_place c.requires.0.1 _ c.requires.1)

pub offset_bounds-parts-k : goal.offset_bounds-parts-k
offset_bounds-parts-k c = omega (arith, view_place c.requires.0.1 _ c.requires.1)

pub bounds-parts-k : goal.bounds-parts-k
bounds-parts-k c = omega (arith, view_place c.requires.0.1 _ c.requires.1)

pub field-requires : goal.field-requires
field-requires c =
    let p = c.requires in
    omega (arith, field_in _ _ _ _ _ _ (view_here p.0.1 _ p.1).field)

pub returns-in_default : goal.returns-in_default
returns-in_default c =
    let p = c.requires in
    absurd (field_short (view_here p.0.1 _ p.1).field (sym c.field.ensures ∙ c.in_default.is))

pub view_at-requires : goal.view_at-requires
view_at-requires c =
    let p = c.requires in
    (view_content (sym c.field.ensures ∙ c.in-Whole.is) (view_here p.0.1 _ p.1)).0

pub returns : goal.returns
returns c =
    let p = c.requires in
    c.view_at.ensures
    ∙ (view_content (sym c.field.ensures ∙ c.in-Whole.is) (view_here p.0.1 _ p.1)).1
