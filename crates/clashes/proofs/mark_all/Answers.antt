use mathlib.Core.Path.{sym}
use native.Mathlib.Omega.{arith}
use Rattle.numbers.specs.Laws.Choice.{went}
use Rattle.clashes.proofs.Laws.{apart_end}
use Rattle.clashes.proofs.Marks.{marking_start, marking_more, marking_stop}
use Rattle.clashes.proofs.mark_all.Goals as goal

pub loop-k-init : goal.loop-k-init
loop-k-init c = marking_start _ _ c.requires.0

pub returns-then-not-mark : goal.returns-then-not-mark
returns-then-not-mark c = sym (marking_stop _ c.loop-k.k c.loop-k.marks c.loop-k.invariant (omega arith) (went c.mark.ensures.0 c.if-not-mark.true))

pub loop-k-preserved : goal.loop-k-preserved
loop-k-preserved c = rw c.mark.ensures.1 (marking_more _ c.loop-k.k c.loop-k.marks c.loop-k.invariant (went c.mark.ensures.0 c.if-not-mark.false))

pub returns : goal.returns
returns c = sym (apart_end _ (omega arith) (omega arith) c.loop-k.invariant.far)
