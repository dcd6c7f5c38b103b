use Rattle.sheet.specs.Editions.{limits}
use borrow.Author.Rules.{rules}
use Rattle.sheet.proofs.editions.limits.Goals as goal

pub returns : goal.returns
unfolding limits
returns c = search rules
