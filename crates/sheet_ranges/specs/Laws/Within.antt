-- A sheet within Sizes, place by place: what later layers need of a sheet that was read.
use Rattle.std.specs.Prelude.{ℕ, ◌≤◌, ◌≡◌, Bool, true, List, []}
use Rattle.std.proofs.Common.{arith}
use borrow.Author.Tests.{leb-true, le-leb}
use Rattle.numbers.specs.Laws.Choice.{both_left, both_right, both_true}
use Rattle.numbers.specs.Laws.Places.{Held, held, held_all}
use Rattle.sheet.specs.Sizes.{layout_places, view_places, step_places}
use Rattle.sheet.specs.Editions.{edition_ok, limits}
use Rattle.tensor_ranges.specs.Layouts.{the_layout, layout_ok, layout_unused}
use Rattle.tensor_ranges.specs.Views.{the_view, view_ok, view_unused}
use Rattle.sheet_ranges.specs.Steps.{no_cell, step_ok, step_unused}
use Rattle.sheet_ranges.specs.Sheets.{layout_at_ok, view_at_ok, step_at_ok, tensors_ok, steps_ok, writable}
use Rattle.sheet.specs.Laws.Editions.{limits_steps}
use Rattle.sheet.specs.declared.Layout.{Layout}
use Rattle.sheet.specs.declared.View.{View}
use Rattle.sheet.specs.declared.Cell.{Cell}
use Rattle.sheet.specs.declared.Tensors.{Tensors}
use Rattle.sheet.specs.declared.Sheet.{Sheet}

-- of the places for layouts, views and steps the first hold what is within Sizes, the others are unused
abbrev pub LayoutsHeld : ℕ → List Layout → Type 0
LayoutsHeld count ls = Held layout_places layout_ok layout_unused (the_layout [] 0) count ls

abbrev pub ViewsHeld : ℕ → List View → Type 0
ViewsHeld count vs = Held view_places view_ok view_unused (the_view [] 0) count vs

abbrev pub StepsHeld : ℕ → ℕ → ℕ → ℕ → List Cell → Type 0
StepsHeld edition layouts views count cs =
    Held step_places (λ (c : Cell). step_ok edition layouts views c.step) (λ (c : Cell). step_unused c.step) no_cell count cs

-- `layout.given k` says that layout k is within Sizes, `layout.past k` that place k is unused; so with views and steps
pub record TensorsWithin (t : Tensors) : Type 0 where
  pub layouts : t.layouts ≤ layout_places
  pub views : t.views ≤ view_places
  pub layout : LayoutsHeld t.layouts t.layout
  pub view : ViewsHeld t.views t.view

pub record Within (sh : Sheet) : Type 0 where
  pub edition : edition_ok sh.edition ≡ true
  pub tensors : TensorsWithin sh.tensors
  pub steps : sh.steps ≤ (limits sh.edition).steps
  pub step : StepsHeld sh.edition sh.tensors.layouts sh.tensors.views sh.steps sh.step

-- the steps have places
pub within_places : {sh : Sheet} → Within sh → sh.steps ≤ step_places
within_places {sh} w = omega (arith, w.steps, limits_steps sh.edition)

tensors_within : (t : Tensors) → tensors_ok t ≡ true → TensorsWithin t
unfolding tensors_ok layout_at_ok view_at_ok
tensors_within t e =
    let e1 = both_right _ _ e in
    let e2 = both_right _ _ e1 in
    let ls = leb-true t.layouts layout_places (both_left _ _ e) in
    let vs = leb-true t.views view_places (both_left _ _ e1) in
    record {
      layouts = ls;
      views = vs;
      layout = held layout_places layout_ok layout_unused (the_layout [] 0) t.layouts t.layout ls (both_left _ _ e2);
      view = held view_places view_ok view_unused (the_view [] 0) t.views t.view vs (both_right _ _ e2);
    }

tensors_ok_lem : (t : Tensors) → TensorsWithin t → tensors_ok t ≡ true
unfolding tensors_ok layout_at_ok view_at_ok
tensors_ok_lem t w =
    both_true _ _ (le-leb t.layouts layout_places w.layouts)
    (both_true _ _ (le-leb t.views view_places w.views)
    (both_true _ _ (held_all layout_places layout_ok layout_unused (the_layout [] 0) t.layouts t.layout w.layout)
    (held_all view_places view_ok view_unused (the_view [] 0) t.views t.view w.view)))

module _ (edition layouts views count : ℕ) (cs : List Cell) where
  abbrev Given : Cell → Bool
  Given c = step_ok edition layouts views c.step

  steps_held : steps_ok edition layouts views count cs ≡ true → StepsHeld edition layouts views count cs
  unfolding steps_ok step_at_ok
  steps_held e =
      let h = leb-true count (limits edition).steps (both_left _ _ e) in
      held step_places Given (λ (c : Cell). step_unused c.step) no_cell count cs (omega (arith, limits_steps edition)) (both_right _ _ e)

  steps_few : steps_ok edition layouts views count cs ≡ true → count ≤ (limits edition).steps
  unfolding steps_ok
  steps_few e = leb-true count (limits edition).steps (both_left _ _ e)

  steps_ok_lem : count ≤ (limits edition).steps → StepsHeld edition layouts views count cs → steps_ok edition layouts views count cs ≡ true
  unfolding steps_ok step_at_ok
  steps_ok_lem h w =
      both_true _ _ (le-leb count (limits edition).steps h)
      (held_all step_places Given (λ (c : Cell). step_unused c.step) no_cell count cs w)

-- a model is within Sizes exactly where it is writable
pub within : (sh : Sheet) → writable sh ≡ true → Within sh
unfolding writable
within sh e =
    let e1 = both_right _ _ e in
    let t = sh.tensors in
    record {
      edition = both_left _ _ e;
      tensors = tensors_within t (both_left _ _ e1);
      steps = steps_few sh.edition t.layouts t.views sh.steps sh.step (both_right _ _ e1);
      step = steps_held sh.edition t.layouts t.views sh.steps sh.step (both_right _ _ e1);
    }

pub within_writable : (sh : Sheet) → Within sh → writable sh ≡ true
unfolding writable
within_writable sh w =
    let t = sh.tensors in
    both_true _ _ w.edition
    (both_true _ _ (tensors_ok_lem t w.tensors) (steps_ok_lem sh.edition t.layouts t.views sh.steps sh.step w.steps w.step))
