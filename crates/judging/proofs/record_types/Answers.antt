use Rattle.judging.specs.Laws.Named.{whole_used}
use Rattle.judging.proofs.record_types.Goals as goal

pub step_types-requires : goal.step_types-requires
step_types-requires c =
    let q = c.requires.1 in
    let e = c.in-Whole.is in
    (q.0, q.3.layouts, q.3.views, q.3.ok (whole_used q.0 q.1 _ q.2 _ _ (rw e at q.4)))
