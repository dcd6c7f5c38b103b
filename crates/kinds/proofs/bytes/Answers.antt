use borrow.Author.Tests.{lt-ltb, le-ltb}
use Rattle.numbers.specs.Choice.{pick}
use Rattle.kinds.specs.Widths.{width, bytes_of}
use Rattle.kinds.proofs.bytes.Goals as goal

pub returns-then-kind-lt2 : goal.returns-then-kind-lt2
unfolding bytes_of width pick
returns-then-kind-lt2 c = rw (lt-ltb _ _ c.if-kind-lt2.true)

pub returns-then-kind-lt4 : goal.returns-then-kind-lt4
unfolding bytes_of width pick
returns-then-kind-lt4 c = rw (le-ltb _ _ c.if-kind-lt2.false, lt-ltb _ _ c.if-kind-lt4.true)

pub returns : goal.returns
unfolding bytes_of width pick
returns c = rw (le-ltb _ _ c.if-kind-lt2.false, le-ltb _ _ c.if-kind-lt4.false)
