use Rattle.std.proofs.Common.{◌≡◌, ◌^◌}
use Rattle.numbers.specs.Remainders.{remainder}
use Rattle.vectors.specs.Residues.{listed, line_to}
use Rattle.vectors.proofs.results.dot.Given as goal

abbrev pub invariant-loop-c : goal.invariant-loop-c
invariant-loop-c l = l.sum ≡ remainder (line_to l.memory l.first l.across l.kind (listed l.components) l.c) (2 ^ 32)
