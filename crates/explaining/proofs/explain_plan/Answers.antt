use mathlib.Core.Path.{sym}
use Prim.Native.Nat.{◌<◌}
use Rattle.addressing.specs.Rules.{elements_of}
use Rattle.addressing.specs.Laws.Plans.{plan_count}
use Rattle.accesses.proofs.Laws.Surveys.{surveyed_outcome}
use Rattle.explaining.specs.Laws.Asking.{access_asked}
use Rattle.explaining.proofs.explain_plan.Goals as goal

pub returns : goal.returns
returns c =
    let s = c in
    let p = s.args.p in
    let e = s.args.element in
    let h : e < elements_of p.access = rw (← plan_count p s.requires.0) c.if-p-element.false in
    rw (c.outcome_of.ensures, surveyed_outcome p s.requires.0 c.survey.ensures s.requires.1 e h, c.outside_of.ensures) (sym (access_asked p.access e h))
