use Rattle.std.proofs.Common.{◌≡◌, ℕ, ◌+◌, ◌*◌}
use Rattle.registers.specs.Laws.Grids.{rows_of}
use Rattle.reduces.specs.Parts.{quad}
use Rattle.reduces.proofs.quad_block.Given as goal

abbrev pub invariant-loop-i : goal.invariant-loop-i
invariant-loop-i l = l.out ≡ rows_of l.initial.out l.columns (λ (a b : ℕ). quad l.elements l.t.kind l.combine l.n (l.first + 2 * (a * l.n) + 2 * b)) l.i
