use Prim.Native.Nat.{◌*◌, ◌<◌, zero-le}
use mathlib.Core.Path.{◌≡◌, refl, ap, subst}
use native.Mathlib.Nat.{add-mul}
use Rattle.numbers.specs.Laws.Choice.{by_order}
use Rattle.sheet.specs.declared.Dimension.{Dimension}
use Rattle.addressing.specs.Rules.{elements_of}
use Rattle.addressing.specs.Rows.{last_of, Out}
use Rattle.addressing.specs.Laws.Plans.{plan_count, plan_fill}
use Rattle.accesses.proofs.Laws.{passed_none}
use Rattle.accesses.proofs.RowLaws.{went_refused, passed_all, row_of, far_all, far_every}
use native.Mathlib.Omega.{arith}
use Rattle.accesses.proofs.rows.survey_rows.Goals as goal

pub last_dimension-x-requires : goal.last_dimension-x-requires
last_dimension-x-requires c = (c.requires.0, refl, c.requires.3)

pub returns-then-is_far : goal.returns-then-is_far
returns-then-is_far c =
    let p = c.args.p in
    let d = c.last_dimension-x.ensures.0 in
    let inner = c.inner_of-inner in
    let v = c.is_far.ensures c.if-is_far.true in
    let w = c.wide.ensures.0 in
    let e = c.stopped.ensures in
    rw (c.put_same.ensures, plan_count p c.requires.0)
    (passed_all _
    (far_every p.access c.requires.0.valid c.requires.2
    (λ i l. subst (λ (z : Dimension). Out z i) d
    (by_order i inner.result.from (λ g. inner.ensures.below i g) (λ g. inner.ensures.above i (v.1 i (omega (arith, l, w, ap (λ (z : Dimension). z.span) d)) g))))
    (far_all p.access c.far_entry-far.ensures v.0) _ c.requires.1)
    (omega arith) c.stopped.result e.0 e.1 e.2)

pub loop-k-init : goal.loop-k-init
loop-k-init c = (passed_none _ _ _ c.requires.0.valid.sized.area c.requires.1, zero-le, λ h. omega arith)

pub row_start-before-requires : goal.row_start-before-requires
row_start-before-requires c = (c.requires.0, refl, c.requires.3)

pub survey_row-r-requires : goal.survey_row-r-requires
survey_row-r-requires c =
    let p = c.args.p in
    let i = c.loop-k in
    let d = c.last_dimension-x.ensures in
    let count = plan_count p c.requires.0 in
    let q = c.row_start-before.ensures in
    let m : i.k < elements_of p.access = omega (arith, count) in
    let e : i.k ≡ i.row * (last_of p.access.layout).span = rw (c.from-span.ensures, d.0) at (i.invariant.2 m) in
    let r = row_of p.access c.requires.0.valid c.requires.2 i.row c.min-n.result e (rw (← d.0) (omega arith)) (omega (arith, m, count)) q.0 in
    record {
      shared = (record { valid = c.requires.0.valid; last = d.0; bits = plan_fill p c.requires.0 }, q.1, r, c.inner_of-inner.ensures, omega (arith, d.1.some), c.far_entry-far.ensures);
      passed = i.invariant.0;
    }

pub returns-then-r-ne0 : goal.returns-then-r-ne0
returns-then-r-ne0 c = went_refused _ c.survey_row-r.ensures c.if-r-ne0.true

pub loop-k-preserved : goal.loop-k-preserved
loop-k-preserved c =
    let i = c.loop-k in
    let count = plan_count c.args.p c.requires.0 in
    let some = c.last_dimension-x.ensures.1.some in (
      c.survey_row-r.ensures.passed c.if-r-ne0.false,
      omega (arith, i.invariant.1, some),
      λ l. omega (arith, count, i.invariant.2 (omega (arith, count)), add-mul i.row 1 c.from-span.result),
    )

pub returns : goal.returns
returns c =
    let e = c.stopped-2.ensures in
    passed_all _ c.loop-k.invariant.0 (omega (arith, plan_count c.args.p c.requires.0)) c.stopped-2.result e.0 e.1 e.2
