use Rattle.translating.proofs.Laws.{turn_count}
use native.Mathlib.Omega.{arith}
use Rattle.translating.proofs.count_step.Goals as goal

pub returns : goal.returns
returns c =
    let a = c.args in
    let e = c.count_apart.ensures in
    let f = c.count_access.ensures in
    record {
      by_index = λ k. turn_count k a.step a.access (e.by_index k a.access) f.0;
      upper_bound = omega (arith, e.upper_bound, f.1);
    }
