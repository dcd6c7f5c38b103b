use Rattle.std.proofs.Common.{◌≡◌}
use Rattle.dimensions.proofs.Laws.{numbers_before}
use Rattle.dimensions.proofs.layout_numbers.Given as goal

abbrev pub invariant-loop-d : goal.invariant-loop-d
invariant-loop-d l = l.numbers ≡ numbers_before l.l l.d
