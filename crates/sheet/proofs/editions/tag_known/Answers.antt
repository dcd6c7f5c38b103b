use Rattle.numbers.specs.Laws.Choice.{calls}
use Rattle.sheet.specs.Editions.{tag_known}
use Rattle.sheet.proofs.editions.tag_known.Goals as goal

pub returns-then-edition-eq0 : goal.returns-then-edition-eq0
unfolding tag_known
returns-then-edition-eq0 c = search calls

pub returns-then-tag-eq-VECTOR_TAG : goal.returns-then-tag-eq-VECTOR_TAG
unfolding tag_known
returns-then-tag-eq-VECTOR_TAG c = search calls

pub returns : goal.returns
unfolding tag_known
returns c = search calls
