use Rattle.numbers.specs.Laws.Choice.{tests, stop, pass}
use Rattle.sheet_reader.specs.Reading.{step_may_come}
use Rattle.sheet_reader.proofs.step_may_come.Goals as goal

pub returns-then-given-lt1 : goal.returns-then-given-lt1
unfolding step_may_come
returns-then-given-lt1 c = stop _ (search tests)

pub returns : goal.returns
unfolding step_may_come
returns c = pass (search tests) (rw (← c.limits-most.ensures))
