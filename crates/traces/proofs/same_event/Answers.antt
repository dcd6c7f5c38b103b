use mathlib.Core.Path.{refl}
use Rattle.numbers.specs.Laws.Choice.{stop, pass, tests}
use Rattle.traces.specs.Events.{same_event}
use Rattle.traces.proofs.same_event.Goals as goal

pub returns-then-x-y : goal.returns-then-x-y
unfolding same_event
returns-then-x-y c = stop _ (search tests)

pub returns-then-x-y-2 : goal.returns-then-x-y-2
unfolding same_event
returns-then-x-y-2 c = pass (search tests) (stop _ (search tests))

pub returns-then-x-y-3 : goal.returns-then-x-y-3
unfolding same_event
returns-then-x-y-3 c = pass (search tests) (pass (search tests) (stop _ (search tests)))

pub returns : goal.returns
unfolding same_event
returns c = pass (search tests) (pass (search tests) (pass (search tests) refl))
