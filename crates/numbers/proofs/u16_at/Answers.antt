use Rattle.numbers.specs.Little.{u16_at}
use borrow.Author.Rules.{rules}
use Rattle.numbers.proofs.u16_at.Goals as goal

pub returns : goal.returns
unfolding u16_at
returns c = search rules
