use mathlib.Core.Path.{ap}
use Rattle.addressing.specs.declared.Access.{Access}
use Rattle.transfers.specs.Acts.{state}
use Rattle.whole_steps.proofs.Laws.Within.{whole_ok_lem}
use Rattle.checking.specs.Steps.{checked_step}
use Rattle.checking.specs.Laws.Names.{load_register, load_object, store_register}
use Rattle.carrying.specs.Steps.{machine, machine_of, registers_of, performed_step}
use Rattle.carrying.specs.Laws.Done.{load_clear, store_clear, load_performed, store_performed}
use Rattle.carrying.proofs.performing.perform_step.Goals as goal

pub with_object-after-requires : goal.with_object-after-requires
with_object-after-requires c =
    let s = c in
    let f = s.requires.placed_bound.2 in
    let ok = rw c.in-Load.is at s.requires.by_index.1.1.0.ok in
    record {
      register_lt_register_count = (load_register _ _ _ _ _ _ ok, load_object _ _ _ _ _ _ ok);
      sized = (f.sized, f.past, f.places);
    }

pub perform_load-counted-requires : goal.perform_load-counted-requires
perform_load-counted-requires c =
    let s = c in
    let q = s.requires.placed_bound in
    let d = rw c.in-Load.is at s.requires.by_index.1.1.0 in
    let m = machine_of s.args.types (state s.args.elements.now s.args.memory.now s.args.counts) in
    record {
      clear_access = (load_clear _ _ m _ _ _ d (rw c.in-Load.is at s.requires.by_index.1.1.1), ap (λ (x : Access). x.memory) d.access);
      register_lt_register_count = (load_register _ _ _ _ _ _ d.ok, q.0, q.1);
    }

pub perform_store-counted-requires : goal.perform_store-counted-requires
perform_store-counted-requires c =
    let s = c in
    let q = s.requires.placed_bound in
    let d = rw c.in-Store.is at s.requires.by_index.1.1.0 in
    let m = machine_of s.args.types (state s.args.elements.now s.args.memory.now s.args.counts) in
    record {
      clear_access = (store_clear _ _ m _ _ d (rw c.in-Store.is at s.requires.by_index.1.1.1), ap (λ (x : Access). x.memory) d.access);
      register_lt_register_count = (store_register _ _ _ _ d.ok, q.0, q.1);
    }

pub perform_whole-after-requires : goal.perform_whole-after-requires
unfolding checked_step
perform_whole-after-requires c =
    let s = c in
    let e = c.in-Whole.is in
    let f = s.requires.placed_bound.2 in
    record {
      whole_ok = (whole_ok_lem _ _ (rw e at s.requires.by_index.1.1.0.ok), f.sized, (s.requires.by_index.0, rw e at s.requires.by_index.1.1.1));
      past = (f.past, f.places, s.requires.placed_bound.1);
    }

pub returns-in-Nothing : goal.returns-in-Nothing
unfolding performed_step
returns-in-Nothing c = record {
  entries_len = c.requires.placed_bound.1;
  counts_after = λ tensors q. rw c.in-Nothing.is;
}

pub returns-in-Load : goal.returns-in-Load
returns-in-Load c =
    let s = c in
    let e = c.perform_load-counted.ensures in
    let m = machine_of s.args.types (state s.args.elements.now s.args.memory.now s.args.counts) in
    let l = load_register _ _ _ _ _ _ (rw c.in-Load.is at s.requires.by_index.1.1.0.ok) in
    record {
      entries_len = e.entries_len;
      counts_after = λ tensors q. rw c.in-Load.is (load_performed tensors m _ _ _ c.with_object-after.ensures (rw s.requires.placed_bound.2.registers l) (rw c.in-Load.is at q) e.result_after);
    }

pub returns-in-Store : goal.returns-in-Store
returns-in-Store c =
    let s = c in
    let e = c.perform_store-counted.ensures in
    let m = machine_of s.args.types (state s.args.elements.now s.args.memory.now s.args.counts) in
    record {
      entries_len = e.entries_len;
      counts_after = λ tensors q. rw c.in-Store.is (store_performed tensors m _ _ (rw c.in-Store.is at q) e.result_after);
    }

pub returns-in-Whole : goal.returns-in-Whole
unfolding performed_step
returns-in-Whole c =
    let s = c in
    let p = c.perform_whole-after.ensures in
    record {
      entries_len = p.block_len;
      counts_after = λ tensors q. rw c.in-Whole.is (λ i. machine (registers_of (p.value i) (p.elements_after i)) s.args.memory.now s.args.counts);
    }
