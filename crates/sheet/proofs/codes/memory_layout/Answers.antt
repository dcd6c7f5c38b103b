use native.Mathlib.Omega.{arith}
use borrow.Author.Tests.{ne_eqb}
use Rattle.numbers.specs.Choice.{pick}
use Rattle.sheet.specs.Codes.{memory_layout}
use Rattle.sheet.proofs.codes.memory_layout.Goals as goal

pub returns-in-0 : goal.returns-in-0
unfolding memory_layout pick
returns-in-0 c = rw c.in-0.is

pub returns-in_default : goal.returns-in_default
unfolding memory_layout pick
returns-in_default c = grind (arith, ne_eqb)
