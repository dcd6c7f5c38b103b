use Rattle.std.proofs.Common.{◌≡◌}
use Rattle.runs.specs.Runs.{held as theHeld}
use Rattle.runs.proofs.Laws.Writing.{Written}
use Rattle.accepted.specs.Accepted.{entries_outcome}
use Rattle.access_tapes.proofs.write_runs.Given as goal

abbrev pub invariant-loop-k : goal.invariant-loop-k
invariant-loop-k l = (l.held ≡ theHeld (entries_outcome l.entries l.fill) l.k) × Written l.load l.register (entries_outcome l.entries l.fill) l.start l.initial.tape l.k l.tape l.at
