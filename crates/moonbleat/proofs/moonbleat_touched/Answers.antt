use mathlib.Core.Path.{refl}
use Rattle.numbers.specs.Laws.Choice.{taken, left, went}
use Rattle.moonbleat.proofs.moonbleat_touched.Goals as goal

pub returns-then-touched : goal.returns-then-touched
returns-then-touched c = taken 0 (went c.touched.ensures c.if-touched.true) refl

pub returns : goal.returns
returns c = left 1 (went c.touched.ensures c.if-touched.false) refl
