use mathlib.Core.Path.{refl, sym, subst}
use Prim.Native.Nat.{◌+◌}
use Rattle.outcomes.specs.declared.Outcome.TheVariants.{Filled, Discarded}
use Rattle.clamps.specs.declared.Clamped.{Clamped}
use Rattle.addressing.specs.Rules.{low_bits, refused}
use Rattle.refusals.specs.Refusals.{outside_undefined}
use Rattle.accesses.specs.Rows.{Row}
use Rattle.accesses.proofs.RowLaws.{went_stop, went_on, row_refused, same_passed}
use native.Mathlib.Omega.{arith}
use Rattle.accesses.proofs.rows.survey_row.Goals as goal

pub survey_at-requires : goal.survey_at-requires
survey_at-requires c =
    let e = c.in-At.is in
    record {
      shared = (c.requires.shared.0, rw e at c.requires.shared.1, subst (λ (z : Clamped). Row c.args.a z c.args.k c.args.n) e c.requires.shared.2, c.requires.shared.3, c.requires.shared.5);
      passed = c.requires.passed;
    }

pub returns-in-Refused : goal.returns-in-Refused
returns-in-Refused c =
    let r = subst (λ (z : Clamped). Row c.args.a z c.args.k c.args.n) c.in-Refused.is c.requires.shared.2 in
    went_stop _ (c.args.k + c.args.n) c.requires.passed (refused outside_undefined) (omega (arith, c.requires.shared.2.inside, c.requires.shared.4)) (sym (row_refused r c.requires.shared.4)) (λ e. omega (arith, e)) c.stopped.result c.stopped.ensures.0 c.stopped.ensures.1

pub returns-in-Discarded : goal.returns-in-Discarded
returns-in-Discarded c =
    rw c.put_same.ensures
    (went_on _ (same_passed Discarded (subst (λ (z : Clamped). Row c.args.a z c.args.k c.args.n) c.in-Discarded.is c.requires.shared.2) (λ i. refl) refl c.requires.passed) c.stopped-in-Discarded.result c.stopped-in-Discarded.ensures.0 c.stopped-in-Discarded.ensures.2)

pub returns-in-Filled : goal.returns-in-Filled
returns-in-Filled c =
    rw c.put_same-in-Filled.ensures
    (went_on _ (same_passed (Filled (low_bits c.args.a)) (subst (λ (z : Clamped). Row c.args.a z c.args.k c.args.n) c.in-Filled.is c.requires.shared.2) (λ i. refl) refl c.requires.passed) c.stopped-in-Filled.result c.stopped-in-Filled.ensures.0 c.stopped-in-Filled.ensures.2)
