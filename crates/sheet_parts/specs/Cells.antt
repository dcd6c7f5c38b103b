-- The places for steps before any is given.
use Rattle.std.specs.Prelude.{List, replicate}
use Rattle.sheet.specs.Sizes.{step_places}
use Rattle.sheet.specs.declared.Cell.{Cell}
use Rattle.sheet_ranges.specs.Steps.{no_cell}

unfoldable pub no_cells : List Cell
no_cells = replicate step_places no_cell
