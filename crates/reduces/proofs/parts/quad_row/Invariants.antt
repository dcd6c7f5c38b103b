use Rattle.std.proofs.Common.{◌≡◌, ℕ, ◌+◌, ◌*◌}
use Rattle.numbers.specs.Lists.{line}
use Rattle.reduces.specs.Parts.{quad}
use Rattle.reduces.proofs.parts.quad_row.Given as goal

abbrev pub invariant-loop-j : goal.invariant-loop-j
invariant-loop-j l = l.out ≡ line l.initial.out l.start (λ (k : ℕ). quad l.elements l.kind l.combine l.n (l.first + 2 * k)) l.j
