use Prim.Native.Nat.{◌+◌, ◌≤◌}
use mathlib.Core.Path.{refl, sym, ap, ◌∙◌}
use lib.ListN.{length}
use native.Mathlib.Omega.{arith}
use Rattle.numbers.specs.Laws.Choice.{tests, taken, left, went}
use Rattle.sheet_ranges.specs.Steps.{step_unused}
use Rattle.step_contents.specs.Laws.Judged.{judged_bad, judged_good}
use Rattle.sheet_reader.specs.Reading.{step_refusal}
use Rattle.sheet_reader.proofs.step_refusal.Goals as goal
use Rattle.sheet_reader.proofs.step_refusal.Goals.{Else-len-step_length}

-- the content is as long as the tag's
content : (c : Else-len-step_length) → c.args.start + c.step_length.result ≤ length c.args.s.now
content c = omega (arith, c.if-len-step_length.false, c.requires)

pub returns-then-not-tag_known : goal.returns-then-not-tag_known
unfolding step_refusal
returns-then-not-tag_known c = left _ (search tests) refl

pub returns-then-not-step_may_come : goal.returns-then-not-step_may_come
unfolding step_refusal
returns-then-not-step_may_come c = taken _ (search tests) (left _ (search tests) refl)

pub returns-then-len-step_length : goal.returns-then-len-step_length
unfolding step_refusal
returns-then-len-step_length c = taken _ (search tests) (taken _ (search tests) (rw (← c.step_length.ensures) (left _ (search tests) refl)))

pub step_at-found-requires : goal.step_at-found-requires
step_at-found-requires c = rw c.step_length.ensures at (content c)

pub returns-then-step_unused : goal.returns-then-step_unused
unfolding step_refusal
returns-then-step_unused c =
    taken _ (search tests) (taken _ (search tests) (rw (← c.step_length.ensures) (taken _ (search tests) (left _ (judged_bad _ _ _ _ (ap step_unused (sym c.step_at-found.ensures) ∙ went c.step_unused.ensures c.if-step_unused.true)) refl))))

pub returns : goal.returns
unfolding step_refusal
returns c =
    taken _ (search tests) (taken _ (search tests) (rw (← c.step_length.ensures) (taken _ (search tests) (taken _ (judged_good _ _ _ _ (ap step_unused (sym c.step_at-found.ensures) ∙ went c.step_unused.ensures c.if-step_unused.false)).0 refl))))
