use Rattle.kinds.proofs.Laws.{raised_ordered}
use Rattle.kinds.proofs.ordered.Goals as goal

pub returns : goal.returns
returns c = raised_ordered _ _ _ _ _ c.raised.ensures c.raised-2.ensures
