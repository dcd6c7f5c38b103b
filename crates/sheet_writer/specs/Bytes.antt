-- The bytes of a sheet: first the edition, then layouts, views, steps.
use Rattle.std.specs.Prelude.{ℕ, List, ◌++◌}
use Rattle.numbers.specs.Lists.{each}
use Rattle.tensor_ranges.specs.Layouts.{the_layout}
use Rattle.tensor_ranges.specs.Views.{the_view}
use Rattle.sheet_ranges.specs.Steps.{the_step}
use Rattle.sheet.specs.declared.Layout.{Layout}
use Rattle.sheet.specs.declared.View.{View}
use Rattle.sheet.specs.declared.Cell.{Cell}
use Rattle.sheet.specs.declared.Sheet.{Sheet}
use Rattle.sheet_bytes.specs.Bytes.{edition_field, layout_field, view_field}
use Rattle.step_bytes.specs.Bytes.{step_field}

abbrev pub layouts_bytes : ℕ → List Layout → List ℕ
layouts_bytes count ls = each count (λ (k : ℕ). layout_field (the_layout ls k))

abbrev pub views_bytes : ℕ → List View → List ℕ
views_bytes count vs = each count (λ (k : ℕ). view_field (the_view vs k))

abbrev pub steps_bytes : ℕ → ℕ → List Cell → List ℕ
steps_bytes edition count cs = each count (λ (k : ℕ). step_field edition (the_step cs k))

unfoldable pub sheet_bytes : Sheet → List ℕ
sheet_bytes sh =
    edition_field sh.edition
    ++ layouts_bytes sh.tensors.layouts sh.tensors.layout
    ++ views_bytes sh.tensors.views sh.tensors.view
    ++ steps_bytes sh.edition sh.steps sh.step
