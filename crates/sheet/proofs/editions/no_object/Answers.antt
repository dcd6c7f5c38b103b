use Rattle.numbers.specs.Laws.Choice.{calls}
use Rattle.sheet.specs.Editions.{no_object}
use Rattle.sheet.proofs.editions.no_object.Goals as goal

pub returns-then-object_is_zeros : goal.returns-then-object_is_zeros
unfolding no_object
returns-then-object_is_zeros c = search calls

pub returns : goal.returns
unfolding no_object
returns c = search calls
