use Rattle.sheet.specs.Editions.{fill_length}
use borrow.Author.Rules.{rules}
use Rattle.sheet.proofs.editions.fill_length.Goals as goal

pub returns : goal.returns
unfolding fill_length
returns c = search rules
