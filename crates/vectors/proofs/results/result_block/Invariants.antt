use Rattle.std.proofs.Common.{◌≡◌}
use Rattle.numbers.specs.Lists.{line}
use Rattle.vectors.specs.Results.{result_at}
use Rattle.vectors.specs.Residues.{listed}
use Rattle.vectors.proofs.results.result_block.Given as goal

abbrev pub invariant-loop-i : goal.invariant-loop-i
invariant-loop-i l = l.out ≡ line l.initial.out 0 (result_at l.memory l.v (listed l.components)) l.i
