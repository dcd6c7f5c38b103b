use mathlib.Core.Path.{refl}
use Rattle.numbers.specs.Laws.Choice.{taken, left, tests}
use Rattle.traces.specs.Events.{is_after}
use Rattle.traces.proofs.is_after.Goals as goal

pub returns-in-None : goal.returns-in-None
unfolding is_after
returns-in-None c = rw c.in-None.is

pub returns-then-e-before : goal.returns-then-e-before
unfolding is_after
returns-then-e-before c = rw c.in-Some.is (taken _ (search tests) refl)

pub returns-else-e-before : goal.returns-else-e-before
unfolding is_after
returns-else-e-before c = rw c.in-Some.is (left _ (search tests) refl)
