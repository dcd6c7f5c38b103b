use Rattle.std.proofs.Common.{◌≡◌, ℕ, ◌+◌, ◌*◌, get_or}
use Rattle.numbers.specs.Lists.{line}
use Rattle.registers.specs.Laws.Grids.{rows_of}
use Rattle.registers.proofs.blocks.spread.Given as goal

abbrev pub invariant-loop-i : goal.invariant-loop-i
invariant-loop-i l = l.out ≡ rows_of l.initial.out l.columns (λ (a b : ℕ). get_or l.from (l.first + a * l.down + b * l.across) 0) l.i

abbrev pub invariant-loop-j : goal.invariant-loop-j
invariant-loop-j l = l.out ≡ line l.initial.out (l.i * l.columns) (λ (b : ℕ). get_or l.from (l.first + l.i * l.down + b * l.across) 0) l.j
