use Rattle.numbers.specs.Laws.Choice.{calls}
use Rattle.kinds.specs.Interpretations.{interpretation_ok}
use Rattle.kinds.proofs.interpretations.interpretation_ok.Goals as goal

pub returns-then-kind_ok : goal.returns-then-kind_ok
unfolding interpretation_ok
returns-then-kind_ok c = search calls

pub returns : goal.returns
unfolding interpretation_ok
returns c = search calls
