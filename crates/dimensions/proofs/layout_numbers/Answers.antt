use Rattle.std.proofs.Common.{◌≡◌, ℕ, List, ◌∙◌, refl, ap, add-one, arith}
use Rattle.sheet.specs.Sizes.{rank_places}
use Rattle.dimensions.specs.Dimensions.{dimension_put, layout_numbers}
use Rattle.dimensions.proofs.Laws.{numbers_before}
use Rattle.dimensions.proofs.layout_numbers.Goals as goal

pub loop-d-init : goal.loop-d-init
unfolding numbers_before
loop-d-init c = refl

pub loop-d-preserved : goal.loop-d-preserved
unfolding numbers_before
loop-d-preserved c = rw add-one (c.put_dimension.ensures ∙ ap (λ (ns : List ℕ). dimension_put c.args.l ns c.loop-d.d) c.loop-d.invariant)

pub returns : goal.returns
unfolding numbers_before layout_numbers
returns c = let e : c.loop-d.d ≡ rank_places = omega arith in c.loop-d.invariant ∙ rw e refl
