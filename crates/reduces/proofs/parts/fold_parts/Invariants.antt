use Rattle.std.proofs.Common.{◌≡◌, ℕ, ◌+◌, ◌*◌}
use Rattle.numbers.specs.Lists.{line}
use Rattle.reduces.specs.Parts.{fold_at, no_folds}
use Rattle.reduces.proofs.parts.fold_parts.Given as goal

abbrev pub invariant-loop-k : goal.invariant-loop-k
invariant-loop-k l = l.out ≡ line no_folds 0 (λ (p : ℕ). fold_at l.elements l.kind l.combine l.step l.later (l.first + p * l.apart)) l.k
