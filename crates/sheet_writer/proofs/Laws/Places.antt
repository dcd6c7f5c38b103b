-- What a writable model gives has places.
use Rattle.std.specs.Prelude.{◌≤◌, ◌≡◌, true}
use Rattle.sheet.specs.Sizes.{layout_places, view_places, step_places}
use Rattle.sheet.specs.declared.Sheet.{Sheet}
use Rattle.sheet_ranges.specs.Sheets.{writable}
use Rattle.sheet_ranges.specs.Laws.Within.{within, within_places}

pub record Places (sh : Sheet) : Type 0 where
  pub layouts : sh.tensors.layouts ≤ layout_places
  pub views : sh.tensors.views ≤ view_places
  pub steps : sh.steps ≤ step_places

pub places : (sh : Sheet) → writable sh ≡ true → Places sh
places sh e =
    let w = within sh e in
    record { layouts = w.tensors.layouts; views = w.tensors.views; steps = within_places w }
