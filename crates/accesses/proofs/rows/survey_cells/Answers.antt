use Prim.Native.Nat.{◌+◌}
use mathlib.Core.Path.{◌≡◌, sym, ◌∙◌}
use Rattle.accesses.proofs.Laws.Surveys.{element_near}
use Rattle.accesses.specs.Refusals.{element_outcome}
use Rattle.accesses.proofs.Laws.{passed_more}
use Rattle.accesses.proofs.RowLaws.{went_stop, went_on}
use borrow.Author.Rules.{rules}
use native.Mathlib.Omega.{arith}
use Rattle.accesses.proofs.rows.survey_cells.Goals as goal
use Rattle.accesses.proofs.rows.survey_cells.Goals.{After-cell-r}

-- the cell is the row's element
is_element : (c : After-cell-r) → c.cell-r.result ≡ element_outcome c.args.a (c.args.k + c.loop-s.s)
is_element c = c.cell-r.ensures ∙ sym (c.requires.shared.2.each c.loop-s.s c.loop-s-test.true)

pub loop-s-init : goal.loop-s-init
loop-s-init c = c.requires.passed

pub cell-r-requires : goal.cell-r-requires
cell-r-requires c =
    let m = c.requires.shared.0 in
    (m.valid, m.last, m.bits, omega (arith, c.requires.shared.2.inside, m.valid.sized.area), c.requires.shared.1)

pub returns-then-r-ne0 : goal.returns-then-r-ne0
returns-then-r-ne0 c =
    went_stop _ _ c.loop-s.invariant c.cell-r.result (omega (arith, c.requires.shared.2.inside)) (is_element (goal.at.returns-then-r-ne0 c).After-cell-r) c.if-r-ne0.true c.stopped.result c.stopped.ensures.0 c.stopped.ensures.1

pub entry-requires : goal.entry-requires
entry-requires c =
    rw (is_element (goal.at.entry-requires c).After-cell-r) (element_near c.args.a c.requires.shared.0.valid.sized (c.args.k + c.loop-s.s))

pub loop-s-preserved : goal.loop-s-preserved
loop-s-preserved c =
    let q : c.args.k + (c.loop-s.s + 1) ≡ c.args.k + c.loop-s.s + 1 = omega arith in
    rw q (passed_more _ c.loop-s.invariant c.cell-r.result (omega (arith, c.requires.shared.2.inside)) (is_element (goal.at.loop-s-preserved c).After-cell-r) (search rules) c.entry.ensures c.placed_one-placed.ensures.0 c.placed_one-placed.ensures.1)

pub returns : goal.returns
returns c =
    let q : c.loop-s.s ≡ c.args.to = omega (arith, c.requires.shared.3) in
    went_on _ (rw q at c.loop-s.invariant) c.stopped-2.result c.stopped-2.ensures.0 c.stopped-2.ensures.2
