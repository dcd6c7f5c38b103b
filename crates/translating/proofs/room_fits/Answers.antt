use mathlib.Core.Path.{refl}
use Rattle.numbers.specs.Laws.Choice.{stop, pass, went}
use Rattle.translating.proofs.room_fits.Goals as goal

pub returns-then-not-records_fit : goal.returns-then-not-records_fit
returns-then-not-records_fit c = stop _ (went c.records_fit.ensures c.if-not-records_fit.true)

pub returns : goal.returns
returns c = pass (went c.records_fit.ensures c.if-not-records_fit.false) refl
