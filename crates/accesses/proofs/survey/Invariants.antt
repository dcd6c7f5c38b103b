use Rattle.accesses.specs.Rows.{Passed}
use Rattle.accesses.specs.Refusals.{element_outcome}
use Rattle.accesses.proofs.survey.Given as goal

abbrev pub invariant-loop-k : goal.invariant-loop-k
invariant-loop-k l = Passed (element_outcome l.p.access) l.p.count l.k l.placed l.entries
