use Prim.Native.Nat.{ℕ, ◌+◌, ◌-◌}
use mathlib.Core.Path.{◌≡◌, ap, ◌∙◌}
use Rattle.tensor_ranges.specs.Laws.Facts.{layout_most}
use Rattle.dimensions.specs.Dimensions.{lead}
use Rattle.addressing.specs.Rows.{up_to}
use Rattle.addressing.proofs.Laws.{plan_numbers, plan_tail, tail_whole, at_most_more}
use native.Mathlib.Omega.{arith}
use Rattle.addressing.proofs.rows.row_start.Goals as goal

pub row_index-requires : goal.row_index-requires
row_index-requires c =
    let p = c.args.p in
    (c.requires.0.valid.sized.layout, c.requires.1 ∙ plan_numbers p c.requires.0, plan_tail p c.requires.0, c.requires.0.start, omega arith)

pub returns : goal.returns
returns c =
    let p = c.args.p in
    let l = p.access.layout in
    let whole = tail_whole l p.tail (plan_tail p c.requires.0) in
    let q : lead l + (c.from-rank.result - 1) ≡ l.rank - 1 = omega (arith, whole, c.requires.2) in
    let t = c.row_index.ensures in
    (t.0 ∙ ap (λ (n : ℕ). up_to p.access.load l n c.args.row) q, at_most_more c.row_index.result (omega (arith, q, layout_most l c.requires.0.valid.sized.layout)) t.1)
