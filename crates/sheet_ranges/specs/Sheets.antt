-- The empty sheet, and what a whole sheet must keep to.
use Rattle.std.specs.Prelude.{ℕ, List, Bool, replicate, ltb, leb}
use Rattle.numbers.specs.Choice.{pick, both}
use Rattle.numbers.specs.All.{all}
use Rattle.sheet.specs.Sizes.{layout_places, view_places, step_places}
use Rattle.sheet.specs.Editions.{edition_ok, limits}
use Rattle.tensor_ranges.specs.Layouts.{no_layout, the_layout, layout_ok, layout_unused}
use Rattle.tensor_ranges.specs.Views.{no_view, the_view, view_ok, view_unused}
use Rattle.sheet_ranges.specs.Steps.{no_cell, the_step, step_ok, step_unused}
use Rattle.sheet.specs.declared.Layout.{Layout}
use Rattle.sheet.specs.declared.View.{View}
use Rattle.sheet.specs.declared.Cell.{Cell}
use Rattle.sheet.specs.declared.Tensors.{Tensors}
use Rattle.sheet.specs.declared.Sheet.{Sheet}

unfoldable pub no_tensors : Tensors
no_tensors = record { layouts = 0; layout = replicate layout_places no_layout; views = 0; view = replicate view_places no_view }

unfoldable pub empty_sheet : Sheet
empty_sheet = record { edition = 0; tensors = no_tensors; steps = 0; step = replicate step_places no_cell }

-- of the places for layouts, views and steps the first hold what is given, the others nothing
unfoldable pub layout_at_ok : ℕ → List Layout → ℕ → Bool
layout_at_ok count ls k = pick (ltb k count) (layout_ok (the_layout ls k)) (layout_unused (the_layout ls k))

unfoldable pub view_at_ok : ℕ → List View → ℕ → Bool
view_at_ok count vs k = pick (ltb k count) (view_ok (the_view vs k)) (view_unused (the_view vs k))

unfoldable pub step_at_ok : ℕ → ℕ → ℕ → ℕ → List Cell → ℕ → Bool
step_at_ok edition layouts views count cs k =
    pick (ltb k count) (step_ok edition layouts views (the_step cs k)) (step_unused (the_step cs k))

-- layouts and views are within Sizes, and each unused place is zero
unfoldable pub tensors_ok : Tensors → Bool
tensors_ok t =
    both (leb t.layouts layout_places)
    (both (leb t.views view_places)
    (both (all layout_places (layout_at_ok t.layouts t.layout))
    (all view_places (view_at_ok t.views t.view))))

-- so are steps, in a sheet of an edition with so many layouts and views
unfoldable pub steps_ok : ℕ → ℕ → ℕ → ℕ → List Cell → Bool
steps_ok edition layouts views steps cs =
    both (leb steps (limits edition).steps) (all step_places (step_at_ok edition layouts views steps cs))

-- a model that a sheet reads as: each number is within Sizes, and each unused place is zero
unfoldable pub writable : Sheet → Bool
writable sh =
    both (edition_ok sh.edition)
    (both (tensors_ok sh.tensors)
    (steps_ok sh.edition sh.tensors.layouts sh.tensors.views sh.steps sh.step))
