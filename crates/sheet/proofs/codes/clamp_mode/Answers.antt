use native.Mathlib.Omega.{arith}
use borrow.Author.Tests.{ne_eqb}
use Rattle.numbers.specs.Choice.{pick}
use Rattle.sheet.specs.Codes.{clamp_mode}
use Rattle.sheet.proofs.codes.clamp_mode.Goals as goal

pub returns-in-0 : goal.returns-in-0
unfolding clamp_mode pick
returns-in-0 c = rw c.in-0.is

pub returns-in-1 : goal.returns-in-1
unfolding clamp_mode pick
returns-in-1 c = rw c.in-1.is

pub returns-in-2 : goal.returns-in-2
unfolding clamp_mode pick
returns-in-2 c = rw c.in-2.is

pub returns-in-3 : goal.returns-in-3
unfolding clamp_mode pick
returns-in-3 c = rw c.in-3.is

pub returns-in_default : goal.returns-in_default
unfolding clamp_mode pick
returns-in_default c = grind (arith, ne_eqb)
