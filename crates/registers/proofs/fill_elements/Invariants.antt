use mathlib.Core.Path.{◌≡◌}
use Prim.Native.Nat.{ℕ}
use Rattle.numbers.specs.Lists.{line}
use Rattle.registers.proofs.fill_elements.Given as goal

abbrev pub invariant-loop-i : goal.invariant-loop-i
invariant-loop-i l = l.elements ≡ line l.initial.elements l.start (λ (k : ℕ). l.value) l.i
