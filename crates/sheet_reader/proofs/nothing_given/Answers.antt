use mathlib.Core.Path.{refl}
use Rattle.sheet_ranges.specs.Sheets.{no_tensors, empty_sheet}
use Rattle.sheet_reader.proofs.nothing_given.Goals as goal

pub returns : goal.returns
unfolding empty_sheet no_tensors
returns c = refl
