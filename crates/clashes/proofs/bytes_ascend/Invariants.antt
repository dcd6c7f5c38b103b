use Rattle.clashes.proofs.Ascending.{Ascending}
use Rattle.clashes.proofs.bytes_ascend.Given as goal

abbrev pub invariant-loop-k : goal.invariant-loop-k
invariant-loop-k l = Ascending l.entries l.k l.last
