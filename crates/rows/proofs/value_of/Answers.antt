use native.Mathlib.Omega.{arith}
use Rattle.rows.proofs.value_of.Goals as goal

pub overflow_cast-result : goal.overflow_cast-result
overflow_cast-result c = let h = rw c.in-Placed.is at c.requires in omega arith
