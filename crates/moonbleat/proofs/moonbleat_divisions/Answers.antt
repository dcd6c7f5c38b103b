use Rattle.small_answers.specs.Laws.Small.{counted_small}
use Rattle.moonbleat.proofs.moonbleat_divisions.Goals as goal

pub put_answer-requires : goal.put_answer-requires
put_answer-requires c = rw c.count_divisions-found.ensures (counted_small _ _)

pub returns : goal.returns
returns c = rw c.count_divisions-found.ensures at c.put_answer.ensures
