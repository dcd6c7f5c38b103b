use Rattle.addressing.specs.Laws.Plans.{planned_access}
use Rattle.explaining.proofs.explain_access.Goals as goal

pub returns : goal.returns
returns c = rw (planned_access _ c.plan_of.ensures.0) at c.explain_plan.ensures
