use mathlib.Core.Path.{refl}
use native.Mathlib.Omega.{arith}
use borrow.Author.Tests.{lt-ltb, le-ltb}
use Rattle.numbers.specs.Laws.Choice.{taken, left, stop, pass, tests}
use Rattle.traces.specs.Events.{byte_sort, event_ok}
use Rattle.traces.proofs.event_ok.Goals as goal

pub returns-then-e-eq-BYTE : goal.returns-then-e-eq-BYTE
unfolding event_ok
returns-then-e-eq-BYTE c = taken _ (search tests) refl

pub returns-then-e-gt-BYTE : goal.returns-then-e-gt-BYTE
unfolding event_ok
returns-then-e-gt-BYTE c = left _ (search tests) (stop _ (le-ltb c.args.e.sort byte_sort (omega arith)))

pub returns : goal.returns
unfolding event_ok
returns c = left _ (search tests) (pass (lt-ltb c.args.e.sort byte_sort (omega arith)) refl)
