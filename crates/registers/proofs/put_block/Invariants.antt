use mathlib.Core.Path.{◌≡◌}
use Prim.Native.Nat.{ℕ}
use lib.ListN.{get_or}
use Rattle.numbers.specs.Lists.{line}
use Rattle.registers.proofs.put_block.Given as goal

abbrev pub invariant-loop-e : goal.invariant-loop-e
invariant-loop-e l = l.elements ≡ line l.initial.elements l.base (λ (k : ℕ). get_or l.block k 0) l.e
