use Rattle.kinds.proofs.Laws.{raised_low, low_lt}
use Rattle.kinds.proofs.residue.Goals as goal

pub overflow_cast-result : goal.overflow_cast-result
overflow_cast-result c = record { fits = low_lt c.raised.result }

pub returns : goal.returns
returns c = raised_low _ _ _ c.raised.ensures
