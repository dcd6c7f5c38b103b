use Rattle.numbers.specs.Laws.Choice.{calls}
use Rattle.sheet.specs.Codes.{viewing_of}
use Rattle.sheet.proofs.codes.viewing_of.Goals as goal

pub returns-then-code-eq-NONE : goal.returns-then-code-eq-NONE
unfolding viewing_of
returns-then-code-eq-NONE c = search calls

pub returns : goal.returns
unfolding viewing_of
returns c = search calls
