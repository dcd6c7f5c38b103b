use Rattle.std.proofs.Common.{rules}
use borrow.Author.Tests.{tests}
use Rattle.numbers.specs.Laws.Ranges.{all_range}
use Rattle.tensor_ranges.specs.Views.{fresh}
use Rattle.tensor_ranges.proofs.views.fresh.Goals as goal

pub returns : goal.returns
unfolding fresh
returns c = all_range _ _ _ _ _ c.all.ensures.ran (λ x b q k. search (rules, tests))
