use Rattle.numbers.specs.Laws.Choice.{tests, stop, pass}
use Rattle.kinds.specs.Values.{negative}
use Rattle.kinds.proofs.negative.Goals as goal

pub returns-then-not-signed : goal.returns-then-not-signed
unfolding negative
returns-then-not-signed c = stop _ (search tests)

pub returns : goal.returns
unfolding negative
returns c = pass (search tests) (rw c.modulus.ensures)
