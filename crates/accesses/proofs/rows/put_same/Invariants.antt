use mathlib.Core.Path.{◌≡◌}
use Prim.Native.Nat.{ℕ}
use Rattle.numbers.specs.Lists.{line}
use Rattle.accesses.proofs.rows.put_same.Given as goal

abbrev pub invariant-loop-i : goal.invariant-loop-i
invariant-loop-i l = l.entries ≡ line l.initial.entries l.at (λ (k : ℕ). l.value) l.i
