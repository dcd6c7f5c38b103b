use mathlib.Core.Path.{◌≡◌, sym, ap, ◌∙◌}
use native.Mathlib.Nat.{zero-mul}
use native.Mathlib.Omega.{arith}
use Prim.Native.Nat.{ℕ, ◌*◌}
use Rattle.addressing.specs.Rules.{elements_of}
use Rattle.addressing.specs.Laws.Plans.{planned_access, plan_count}
use Rattle.accesses.proofs.Laws.Accepted.{accepted_valid}
use Rattle.accesses.proofs.Laws.Surveys.{surveyed_outcome}
use Rattle.accepted.proofs.survey_access.Goals as goal

pub returns-then-access-lt1 : goal.returns-then-access-lt1
returns-then-access-lt1 c =
    let s = c in
    let a = s.args.access in
    let z : a.rows ≡ 0 = omega (arith, c.if-access-lt1.true) in
    let none : elements_of a ≡ 0 = ap (λ (r : ℕ). r * a.columns) z ∙ zero-mul a.columns in
    record {
      entries_len = s.requires.1;
      listed = record { count = sym none; few = omega arith; each = λ k h. absurd (omega (arith, h, none)) };
    }

pub plan_of-p-requires : goal.plan_of-p-requires
plan_of-p-requires c =
    let k = c.requires.0 (omega (arith, c.if-access-lt1.false)) in
    accepted_valid _ k.clear k.sized

pub survey-requires : goal.survey-requires
survey-requires c = (c.plan_of-p.ensures.1, c.requires.1)

pub returns : goal.returns
returns c =
    let p = c.plan_of-p in
    let q = p.ensures in
    let v = c.survey.ensures in
    let e = planned_access _ q.0 in
    let k = c.requires.0 (omega (arith, c.if-access-lt1.false)) in record {
      entries_len = v.room;
      listed = record {
        count = plan_count p.result q.1 ∙ ap elements_of e;
        few = q.1.few;
        each = rw e at (surveyed_outcome p.result q.1 v (rw e k.clear));
      };
    }
