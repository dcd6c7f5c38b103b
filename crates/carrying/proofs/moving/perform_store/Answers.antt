use mathlib.Core.Path.{ap, ◌∙◌}
use Rattle.addressing.specs.Laws.Plans.{planned_access}
use Rattle.addressing.specs.declared.Access.{Access}
use Rattle.accesses.proofs.Laws.Accepted.{accepted_valid}
use Rattle.transfers.specs.Acts.{state}
use Rattle.transfers.specs.Transfers.{stored_elements}
use Rattle.carrying.proofs.moving.perform_store.Goals as goal

pub plan_of-p-requires : goal.plan_of-p-requires
plan_of-p-requires c = let k = c.requires.clear_access.0 in accepted_valid _ k.clear k.sized

pub store_elements-requires : goal.store_elements-requires
store_elements-requires c =
    let s = c in
    let w = c.plan_of-p.ensures in
    let e = planned_access _ w.0 in
    record {
      planned = (w.1, rw e s.requires.clear_access.0.clear, rw e s.requires.clear_access.1);
      register_lt_register_count = s.requires.register_lt_register_count;
    }

pub returns : goal.returns
returns c =
    let a = c.args in
    let e = c.store_elements.ensures in
    let p = c.plan_of-p.ensures in
    record {
      entries_len = e.entries_len;
      result_after = e.result_after ∙ ap (λ (x : Access). stored_elements x a.register (state a.elements.now a.memory.now a.counted)) (planned_access _ p.0);
    }
