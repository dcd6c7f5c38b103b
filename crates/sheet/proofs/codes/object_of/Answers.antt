use Rattle.numbers.specs.Laws.Choice.{calls}
use Rattle.sheet.specs.Codes.{object_of}
use Rattle.sheet.proofs.codes.object_of.Goals as goal

pub returns-then-code-eq-NONE : goal.returns-then-code-eq-NONE
unfolding object_of
returns-then-code-eq-NONE c = search calls

pub returns : goal.returns
unfolding object_of
returns c = search calls
