use Prim.Native.Nat.{◌-◌, ◌*◌, ◌≤◌, ◌<◌}
use mathlib.Core.Path.{◌≡◌}
use Rattle.addressing.specs.Rules.{elements_of}
use Rattle.accesses.specs.Refusals.{element_outcome}
use Rattle.accesses.specs.Rows.{Passed}
use Rattle.accesses.proofs.rows.survey_rows.Given as goal

abbrev pub invariant-loop-k : goal.invariant-loop-k
invariant-loop-k l = Passed (element_outcome l.p.access) (elements_of l.p.access) l.k l.placed l.entries × (l.row ≤ l.k) × (l.k < elements_of l.p.access → l.k ≡ l.row * l.span)

abbrev pub decreases-loop-k : goal.decreases-loop-k
decreases-loop-k l = l.p.count - l.k
