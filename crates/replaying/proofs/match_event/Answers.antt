use Rattle.numbers.specs.Laws.Choice.{went}
use Rattle.replaying.proofs.Laws.Matching.{one_in, one_out}
use Rattle.replaying.proofs.match_event.Goals as goal

pub returns-then-goes_on : goal.returns-then-goes_on
returns-then-goes_on c = let s = c in one_in _ s.args.m s.args.e (went c.goes_on.ensures c.if-goes_on.true)

pub returns : goal.returns
returns c = let s = c in one_out _ s.args.m s.args.e (went c.goes_on.ensures c.if-goes_on.false)
