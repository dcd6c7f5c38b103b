use borrow.Author.Tests.{lt-ltb, le-ltb}
use Rattle.numbers.specs.Choice.{pick}
use Rattle.kinds.specs.Widths.{width}
use Rattle.kinds.proofs.modulus.Goals as goal

pub returns-then-kind-lt2 : goal.returns-then-kind-lt2
unfolding width pick
returns-then-kind-lt2 c = rw (lt-ltb _ _ c.if-kind-lt2.true)

pub returns-then-kind-lt4 : goal.returns-then-kind-lt4
unfolding width pick
returns-then-kind-lt4 c = rw (le-ltb _ _ c.if-kind-lt2.false, lt-ltb _ _ c.if-kind-lt4.true)

pub returns : goal.returns
unfolding width pick
returns c = rw (le-ltb _ _ c.if-kind-lt2.false, le-ltb _ _ c.if-kind-lt4.false)
