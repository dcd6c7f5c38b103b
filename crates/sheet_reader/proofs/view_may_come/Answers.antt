use Rattle.numbers.specs.Laws.Choice.{tests, stop, pass}
use Rattle.sheet_reader.specs.Reading.{view_may_come}
use Rattle.sheet_reader.proofs.view_may_come.Goals as goal

pub returns-then-given-lt1 : goal.returns-then-given-lt1
unfolding view_may_come
returns-then-given-lt1 c = stop _ (search tests)

pub returns-then-given-ne0 : goal.returns-then-given-ne0
unfolding view_may_come
returns-then-given-ne0 c = pass (search tests) (stop _ (search tests))

pub returns : goal.returns
unfolding view_may_come
returns c = pass (search tests) (pass (search tests) (search tests))
