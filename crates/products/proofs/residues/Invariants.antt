use Rattle.std.proofs.Common.{◌≡◌, ℕ, ◌+◌, ◌^◌, get_or}
use Rattle.numbers.specs.Lists.{line}
use Rattle.numbers.specs.Remainders.{remainder}
use Rattle.kinds.specs.Values.{value}
use Rattle.products.proofs.residues.Given as goal

abbrev pub invariant-loop-e : goal.invariant-loop-e
invariant-loop-e l = l.out ≡ line l.initial.out 0 (λ (k : ℕ). remainder (value l.kind (get_or l.elements (l.first + k) 0)) (2 ^ 32)) l.e
