use Rattle.std.proofs.Common.{rules}
use Rattle.numbers.specs.Laws.Ranges.{all_range}
use Rattle.sheet_ranges.proofs.sheets.cells_ok.Goals as goal

pub returns : goal.returns
returns c = all_range _ _ _ _ _ c.all.ensures.ran (λ x b q k. search rules)
