use Rattle.std.proofs.Common.{◌≡◌, ℕ, ◌+◌, ◌*◌, get_or}
use Rattle.combines.specs.Combining.{folded}
use Rattle.combines.proofs.fold.Given as goal

abbrev pub invariant-loop-t : goal.invariant-loop-t
invariant-loop-t l = l.all ≡ folded l.kind l.combine (λ (k : ℕ). get_or l.elements (l.first + k * l.step) 0) l.t
