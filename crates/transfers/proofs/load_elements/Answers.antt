use Rattle.std.proofs.Common.{◌∙◌, ap, arith}
use Rattle.counts.specs.Counts.{no_counts, more_placed}
use Rattle.transfers.specs.Acts.{State, state, loaded}
use Rattle.transfers.proofs.Laws.Elements.{transferred_turn, loaded_count, met_outcome, met_inside}
use Rattle.transfers.proofs.load_elements.Goals as goal

pub load_element-placed-requires-clause-inside : goal.load_element-placed-requires-clause-inside
load_element-placed-requires-clause-inside c =
    let r = c.requires.planned in
    let m = met_inside c.args.p r.0 r.1 c.survey.ensures c.loop-k.k c.loop-k-test.true c.outcome_of-o.ensures in
    rw (← r.2) m

pub loop-k-preserved : goal.loop-k-preserved
loop-k-preserved c =
    let a = c.args in
    let i = c.loop-k in
    let r = c.requires.planned in
    let o = c.outcome_of-o in
    let e = c.load_element-placed.ensures in
    let n = loaded_count a.p.access.size a.register i.k o.result (state i.elements a.memory.now (more_placed no_counts i.placed)) in
    (omega (arith, n, i.invariant.0, ap (λ (x : State). x.counts.placed) (e no_counts)), transferred_turn (loaded a.p.access.size a.register) _ i.k _ o.result (o.ensures ∙ met_outcome a.p r.0 r.1 c.survey.ensures i.k c.loop-k-test.true) i.invariant.1 (e a.counted))
