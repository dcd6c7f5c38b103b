use mathlib.Core.Path.{refl}
use native.Mathlib.Omega.{arith}
use Rattle.rows.proofs.put_verdict.Goals as goal

pub overflow_cast-row : goal.overflow_cast-row
overflow_cast-row c = let h = rw c.in-Differs.is at c.requires in record { fits = omega arith }

pub returns-in-Differs : goal.returns-in-Differs
returns-in-Differs c = rw c.in-Differs.is refl
