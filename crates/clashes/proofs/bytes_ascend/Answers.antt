use mathlib.Core.Path.{sym, ◌∙◌}
use mathlib.Core.Bool.{true≢false}
use native.Mathlib.Omega.{arith}
use Rattle.numbers.specs.Laws.Choice.{went}
use Rattle.clashes.proofs.Laws.{apart_end}
use Rattle.clashes.proofs.Ascending.{ascending_start, ascending_more}
use Rattle.clashes.proofs.bytes_ascend.Goals as goal
use Rattle.clashes.proofs.bytes_ascend.Goals.{then-has_byte+else-x-last, else-has_byte}

pub loop-k-init : goal.loop-k-init
loop-k-init c = ascending_start _

pub returns-then-x-last : goal.returns-then-x-last
returns-then-x-last c = λ e. absurd (true≢false (sym e))

pub loop-k-preserved : goal.loop-k-preserved
loop-k-preserved c =
    let more = ascending_more _ c.if-has_byte.last c.loop-k.invariant in
    elim c.if-has_byte.branch [
      | then-has_byte+else-x-last w ↦ more (omega arith) (λ t. (omega arith, omega arith))
      | else-has_byte w ↦ more (omega arith) (λ t. absurd (true≢false (sym t ∙ went c.has_byte.ensures w.if-has_byte.false)))
    ]

pub returns : goal.returns
returns c = λ e. apart_end _ (omega arith) (omega arith) c.loop-k.invariant.far
