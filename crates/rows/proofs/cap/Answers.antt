use mathlib.Core.Path.{refl, ◌∙◌}
use borrow.Author.Tests.{le-leb, lt-leb}
use Rattle.numbers.specs.Choice.{pick}
use Rattle.rows.specs.Rows.{row_most, capped}
use native.Mathlib.Omega.{arith}
use Rattle.rows.proofs.cap.Goals as goal

pub returns-then-refusal-le-ROW_MOST : goal.returns-then-refusal-le-ROW_MOST
unfolding capped pick
returns-then-refusal-le-ROW_MOST c = let r = c.args.refusal in rw (le-leb r.place row_most c.if-refusal-le-ROW_MOST.true) refl

pub returns : goal.returns
unfolding capped pick
returns c = let r = c.args.refusal in c.refusal_at.ensures ∙ rw (lt-leb r.place row_most (omega (arith, c.if-refusal-le-ROW_MOST.false))) refl
