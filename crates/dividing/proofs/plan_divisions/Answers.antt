use mathlib.Core.Path.{◌≡◌, refl}
use Rattle.numbers.specs.Lists.{each}
use Rattle.addressing.specs.Laws.Plans.{plan_count}
use Rattle.dividing.specs.Divisions.{element_divisions, total}
use Rattle.accepted.specs.Elements.{of_access}
use Rattle.dividing.specs.Laws.Totals.{total_more}
use native.Mathlib.Omega.{arith}
use Rattle.dividing.proofs.plan_divisions.Goals as goal

pub loop-k-init : goal.loop-k-init
unfolding each total
loop-k-init c = (omega arith, refl)

pub loop-k-preserved : goal.loop-k-preserved
loop-k-preserved c =
    let a = c.args.p.access in
    let l = c.loop-k in
    let e = c.element_divisions.ensures in
    let more = total_more l.k (element_divisions a) in
    (omega (arith, l.invariant.0, e.1), omega (arith, l.invariant.1, e.0, more))

pub returns : goal.returns
unfolding of_access
returns c =
    let l = c.loop-k in
    let n : l.k ≡ c.args.p.count = omega arith in
    (rw (← plan_count c.args.p c.requires, ← n) l.invariant.1, omega (arith, l.invariant.0, c.requires.few))
