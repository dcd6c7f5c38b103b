use Rattle.clashes.proofs.Marks.{Marking}
use Rattle.clashes.proofs.mark_all.Given as goal

abbrev pub invariant-loop-k : goal.invariant-loop-k
invariant-loop-k l = Marking l.entries l.k l.marks
