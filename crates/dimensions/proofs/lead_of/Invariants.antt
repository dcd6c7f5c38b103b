use Rattle.dimensions.proofs.Laws.{Leading}
use Rattle.dimensions.proofs.lead_of.Given as goal

abbrev pub invariant-loop-d : goal.invariant-loop-d
invariant-loop-d l = Leading l.l l.d l.start
