use Rattle.std.proofs.Common.{◌∙◌, ap, arith}
use Rattle.counts.specs.Counts.{no_counts, more_placed}
use Rattle.transfers.specs.Acts.{State, state, stored}
use Rattle.transfers.proofs.Laws.Elements.{transferred_turn, stored_count, met_outcome, met_inside}
use Rattle.transfers.proofs.store_elements.Goals as goal

pub store_element-placed-requires-clause-inside : goal.store_element-placed-requires-clause-inside
store_element-placed-requires-clause-inside c =
    let r = c.requires.planned in
    let m = met_inside c.args.p r.0 r.1 c.survey.ensures c.loop-k.k c.loop-k-test.true c.outcome_of-o.ensures in
    rw (c.loop-k.auto.memory, ← r.2) m

pub loop-k-preserved : goal.loop-k-preserved
loop-k-preserved c =
    let a = c.args in
    let i = c.loop-k in
    let r = c.requires.planned in
    let o = c.outcome_of-o in
    let e = c.store_element-placed.ensures in
    let n = stored_count a.p.access.size a.register i.k o.result (state a.elements.now i.memory (more_placed no_counts i.placed)) in
    (omega (arith, n, i.invariant.0, ap (λ (x : State). x.counts.placed) (e no_counts)), transferred_turn (stored a.p.access.size a.register) _ i.k _ o.result (o.ensures ∙ met_outcome a.p r.0 r.1 c.survey.ensures i.k c.loop-k-test.true) i.invariant.1 (e a.counted))
