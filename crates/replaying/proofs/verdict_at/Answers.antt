use mathlib.Core.Path.{refl, sym}
use Rattle.numbers.specs.Laws.Choice.{taken, left, stop, pass, both_true, tests}
use Rattle.replaying.specs.Verdicts.{verdict_at}
use Rattle.replaying.proofs.verdict_at.Goals as goal

pub returns-then-m : goal.returns-then-m
unfolding verdict_at
returns-then-m c = left _ (sym (stop _ (search tests))) refl

pub returns-then-m-events : goal.returns-then-m-events
unfolding verdict_at
returns-then-m-events c = left _ (sym (pass (search tests) (sym (search tests)))) refl

pub returns : goal.returns
unfolding verdict_at
returns c = taken _ (both_true _ _ (search tests) (search tests)) refl
