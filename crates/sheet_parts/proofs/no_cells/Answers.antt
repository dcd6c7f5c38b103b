use mathlib.Core.Path.{ap}
use lib.ListN.{replicate}
use Rattle.sheet.specs.Sizes.{step_places}
use Rattle.sheet_parts.specs.Cells.{no_cells}
use Rattle.sheet_parts.proofs.no_cells.Goals as goal

pub returns : goal.returns
unfolding no_cells
returns c = ap (replicate step_places) c.no_cell-none.ensures
