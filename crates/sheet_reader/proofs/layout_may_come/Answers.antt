use Rattle.numbers.specs.Laws.Choice.{tests, stop, pass}
use Rattle.sheet_reader.specs.Reading.{layout_may_come}
use Rattle.sheet_reader.proofs.layout_may_come.Goals as goal

pub returns-then-given-lt1 : goal.returns-then-given-lt1
unfolding layout_may_come
returns-then-given-lt1 c = stop _ (search tests)

pub returns-then-given-ne0 : goal.returns-then-given-ne0
unfolding layout_may_come
returns-then-given-ne0 c = pass (search tests) (stop _ (search tests))

pub returns-then-given-ne0-2 : goal.returns-then-given-ne0-2
unfolding layout_may_come
returns-then-given-ne0-2 c = pass (search tests) (pass (search tests) (stop _ (search tests)))

pub returns : goal.returns
unfolding layout_may_come
returns c = pass (search tests) (pass (search tests) (pass (search tests) (search tests)))
