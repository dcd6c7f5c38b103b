use mathlib.Core.Path.{◌≡◌}
use native.Mathlib.Omega.{arith}
use Rattle.accesses.proofs.RowLaws.{went_on, even_passed}
use Rattle.accesses.proofs.rows.survey_inside.Goals as goal

pub returns-then-to-from : goal.returns-then-to-from
returns-then-to-from c =
    let q : c.args.from ≡ c.args.to = omega (arith, c.requires.shared.4) in
    went_on _ (rw q at c.requires.passed) c.stopped.result c.stopped.ensures.0 c.stopped.ensures.2

pub returns-then-is_even : goal.returns-then-is_even
returns-then-is_even c =
    let m = c.requires.shared in
    let h = c.if-to-from.false in
    let w = c.wide-stride.ensures.0 in
    rw c.put_even.ensures
    (went_on _ (even_passed c.args.a m.0.last m.2 m.3 h (m.6 h) m.5 (rw w) (rw w) (c.is_even.ensures c.if-is_even.true) c.requires.passed) c.stopped-then-is_even.result c.stopped-then-is_even.ensures.0 c.stopped-then-is_even.ensures.2)
