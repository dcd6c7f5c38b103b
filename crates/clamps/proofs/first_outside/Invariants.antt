use Rattle.clamps.proofs.Laws.{Looking}
use Rattle.clamps.proofs.first_outside.Given as goal

abbrev pub invariant-loop-d : goal.invariant-loop-d
invariant-loop-d l = Looking l.l l.coordinates l.d
