use mathlib.Core.Path.{sym, ◌∙◌}
use native.Mathlib.Omega.{arith}
use Rattle.fields.specs.Laws.Bounds.{field_in}
use Rattle.sheet_parts.specs.Laws.{step_place, step_here, field_short, step_content}
use Rattle.sheet_parts.proofs.step_in.Goals as goal

pub overflow_add-c : goal.overflow_add-c
overflow_add-c c = omega (arith, step_place c.requires.0 _ c.requires.1)

pub offset_bounds-parts-k : goal.offset_bounds-parts-k
offset_bounds-parts-k c = omega (arith, step_place c.requires.0 _ c.requires.1)

pub bounds-parts-k : goal.bounds-parts-k
bounds-parts-k c = omega (arith, step_place c.requires.0 _ c.requires.1)

pub field-requires : goal.field-requires
field-requires c =
    let p = c.requires in
    omega (arith, field_in _ _ _ _ _ _ (step_here p.0 _ p.1).field)

pub returns-in_default : goal.returns-in_default
returns-in_default c =
    let p = c.requires in
    absurd (field_short (step_here p.0 _ p.1).field (sym c.field.ensures ∙ c.in_default.is))

pub step_at-requires : goal.step_at-requires
step_at-requires c =
    let p = c.requires in
    (step_content (sym c.field.ensures ∙ c.in-Whole.is) (step_here p.0 _ p.1)).0

pub returns : goal.returns
returns c =
    let p = c.requires in
    c.step_at.ensures
    ∙ (step_content (sym c.field.ensures ∙ c.in-Whole.is) (step_here p.0 _ p.1)).1
