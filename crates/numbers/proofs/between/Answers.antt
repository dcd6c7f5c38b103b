use Rattle.numbers.specs.Choice.{between}
use Rattle.numbers.specs.Laws.Choice.{ways}
use Rattle.numbers.proofs.between.Goals as goal

pub returns-then-x-low : goal.returns-then-x-low
unfolding between
returns-then-x-low c = search ways

pub returns : goal.returns
unfolding between
returns c = search ways
