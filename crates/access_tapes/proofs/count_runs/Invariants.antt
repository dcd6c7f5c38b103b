use Rattle.std.proofs.Common.{◌≡◌, length}
use Rattle.runs.specs.Runs.{held as theHeld, ended}
use Rattle.accepted.specs.Accepted.{entries_outcome}
use Rattle.access_tapes.proofs.count_runs.Given as goal

abbrev pub invariant-loop-k : goal.invariant-loop-k
invariant-loop-k l = (l.held ≡ theHeld (entries_outcome l.entries 0) l.k) × (l.records ≡ length (ended (entries_outcome l.entries 0) l.k))
