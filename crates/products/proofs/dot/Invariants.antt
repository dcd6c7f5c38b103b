use Rattle.std.proofs.Common.{◌≡◌, ℕ, ◌+◌, ◌*◌, get_or}
use Rattle.products.specs.Residues.{dot_of}
use Rattle.products.proofs.dot.Given as goal

abbrev pub invariant-loop-t : goal.invariant-loop-t
invariant-loop-t l = l.sum ≡ dot_of (λ (k : ℕ). get_or l.x k 0) (λ (k : ℕ). get_or l.y (l.q + k * l.n) 0) l.t
