use Rattle.dimensions.specs.Dimensions.{lead}
use Rattle.tensor_ranges.specs.Laws.Facts.{layout_most}
use native.Mathlib.Omega.{arith}
use Rattle.addressing.proofs.Laws.{reached_far, reached_up, tail_whole}
use Rattle.addressing.specs.Rules.{settled, reached}
use Rattle.addressing.specs.Rows.{up_to}
use Rattle.clamps.specs.declared.Clamped.{Clamped}
use Rattle.clamps.specs.declared.Clamped.TheVariants.{Refused, Discarded, Filled, At}
use mathlib.Core.Path.{◌≡◌, sym, ◌∙◌}
use Prim.Native.Nat.{◌+◌}
use borrow.Author.Rules.{rules}
use Rattle.addressing.proofs.reach.Goals as goal
use Rattle.addressing.proofs.reach.Goals.{After-from-rank}

-- what rules 4 and 5 make of the tensor index
there : (c : After-from-rank) (x : Clamped) → x ≡ up_to c.args.a.load c.args.a.layout (lead c.args.a.layout + c.from-rank.result) c.args.index → settled c.args.a x ≡ reached c.args.a c.args.index
there c x e = reached_up c.args.a c.args.index x c.args.tail c.requires.0 c.requires.3 (search rules) (rw c.from-rank.ensures at (sym e))

pub returns-then-index-ge-INDEX_LIMIT : goal.returns-then-index-ge-INDEX_LIMIT
returns-then-index-ge-INDEX_LIMIT c = c.refuse.ensures ∙ reached_far _ _ c.if-index-ge-INDEX_LIMIT.true

pub address-requires : goal.address-requires
address-requires c =
    (c.requires.0, omega (arith, c.in-At.ensures.1, tail_whole c.args.a.layout c.args.tail c.requires.3, layout_most c.args.a.layout c.requires.0.sized.layout))

pub returns-in-Refused : goal.returns-in-Refused
returns-in-Refused c = c.refuse-in-Refused.ensures ∙ there (goal.at.returns-in-Refused c).After-from-rank Refused c.in-Refused.ensures.0

pub returns-in-Discarded : goal.returns-in-Discarded
returns-in-Discarded c = c.answer.ensures ∙ there (goal.at.returns-in-Discarded c).After-from-rank Discarded c.in-Discarded.ensures.0

pub returns-in-Filled : goal.returns-in-Filled
returns-in-Filled c = c.answer-in-Filled.ensures ∙ rw c.requires.1 (there (goal.at.returns-in-Filled c).After-from-rank Filled c.in-Filled.ensures.0)

pub returns-in-At : goal.returns-in-At
returns-in-At c = c.address.ensures ∙ there (goal.at.returns-in-At c).After-from-rank (At c.in-At.t) c.in-At.ensures.0
