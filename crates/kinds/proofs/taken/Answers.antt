use mathlib.Core.Path.{refl}
use Rattle.numbers.specs.Laws.Choice.{tests, taken as chosen, left}
use Rattle.kinds.specs.Values.{taken}
use Rattle.kinds.proofs.taken.Goals as goal

pub returns-then-negative : goal.returns-then-negative
unfolding taken
returns-then-negative c = chosen _ (search tests) c.modulus.ensures

pub returns : goal.returns
unfolding taken
returns c = left _ (search tests) refl
