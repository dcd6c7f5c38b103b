use Rattle.small_answers.specs.Laws.Small.{check_small}
use Rattle.moonbleat.proofs.moonbleat_check.Goals as goal

pub put_answer-requires : goal.put_answer-requires
put_answer-requires c = rw c.check_sheet-found.ensures (check_small _ _)

pub returns : goal.returns
returns c = rw c.check_sheet-found.ensures at c.put_answer.ensures
