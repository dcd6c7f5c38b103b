use mathlib.Core.Path.{◌∙◌, ap}
use Rattle.numbers.specs.Choice.{between}
use Rattle.sheet.specs.declared.editions.SizeLimits.{SizeLimits}
use Rattle.sheet.proofs.editions.side_ok.Goals as goal

pub returns : goal.returns
returns c = c.between.ensures ∙ ap (λ (l : SizeLimits). between 1 l.side c.args.x) c.limits-most.ensures
