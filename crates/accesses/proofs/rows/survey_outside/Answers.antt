use Rattle.accesses.proofs.RowLaws.{went_on, far_all, far_passed}
use Rattle.accesses.proofs.rows.survey_outside.Goals as goal

pub returns-then-far-gt0 : goal.returns-then-far-gt0
returns-then-far-gt0 c =
    let m = c.requires.shared in
    rw c.put_same.ensures
    (went_on _ (far_passed c.args.a m.0.last m.2 m.3 m.5 (far_all c.args.a m.4 c.if-far-gt0.true) c.requires.passed) c.stopped.result c.stopped.ensures.0 c.stopped.ensures.2)
