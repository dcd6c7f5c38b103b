use Rattle.kinds.specs.Laws.Raised.{taken_le}
use Rattle.kinds.proofs.raised.Goals as goal

pub overflow_sub-result : goal.overflow_sub-result
overflow_sub-result c = rw c.taken.ensures (taken_le _ _)
