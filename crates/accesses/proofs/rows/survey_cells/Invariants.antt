use Prim.Native.Nat.{◌+◌}
use Rattle.addressing.specs.Rules.{elements_of}
use Rattle.accesses.specs.Refusals.{element_outcome}
use Rattle.accesses.specs.Rows.{Passed}
use Rattle.accesses.proofs.rows.survey_cells.Given as goal

abbrev pub invariant-loop-s : goal.invariant-loop-s
invariant-loop-s l = Passed (element_outcome l.a) (elements_of l.a) (l.k + l.s) l.placed l.entries
