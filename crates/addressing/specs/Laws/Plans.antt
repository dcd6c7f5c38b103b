-- The parts of a plan.
use Rattle.std.specs.Prelude.{◌≡◌}
use Rattle.std.proofs.Common.{ap}
use Rattle.addressing.specs.declared.Access.{Access}
use Rattle.addressing.specs.declared.Plan.{Plan}
use Rattle.addressing.specs.Rules.{elements_of, low_bits}
use Rattle.addressing.specs.Plans.{planned}
use Rattle.addressing.specs.Valid.{Planned}

pub planned_access : (a : Access) {p : Plan} → p ≡ planned a → p.access ≡ a
unfolding planned
planned_access a e = ap (λ (q : Plan). q.access) e

pub plan_count : (p : Plan) → Planned p → p.count ≡ elements_of p.access
unfolding planned
plan_count p ok = ap (λ (q : Plan). q.count) ok.same

pub plan_fill : (p : Plan) → Planned p → p.fill ≡ low_bits p.access
unfolding planned
plan_fill p ok = ap (λ (q : Plan). q.fill) ok.same
