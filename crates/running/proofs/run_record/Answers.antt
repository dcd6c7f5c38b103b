use mathlib.Core.Path.{ap}
use Rattle.registers.specs.declared.Registers.{Registers}
use Rattle.carrying.specs.Steps.{machine}
use Rattle.numbers.specs.Laws.Choice.{both_right}
use Rattle.judging.specs.Records.{whole_record_ok}
use Rattle.running.specs.Records.{ran_record_with}
use native.Mathlib.Omega.{arith}
use Rattle.running.proofs.run_record.Goals as goal

pub copy_register-after-requires : goal.copy_register-after-requires
copy_register-after-requires c =
    let s = c in
    record {
      register_lt_register_count = rw c.in-Copy.is at s.requires.sized.1;
      sized = (s.requires.sized.0, s.requires.past.0, s.requires.past.1);
    }

pub take-requires : goal.take-requires
take-requires c =
    let s = c in
    let e = c.in-Take.is in
    let q = rw e at s.requires.sized.1 in
    record {
      sized = (s.requires.sized.0, q.0, q.1);
      down_value = rw e at s.requires.by_index.3;
    }

pub more_placed-requires : goal.more_placed-requires
more_placed-requires c = let q = rw c.in-Take.is at c.requires.sized.1 in (omega (arith, c.requires.sized.2), omega (arith, q.0.count))

pub put-requires : goal.put-requires
put-requires c =
    let s = c in
    let e = c.in-Put.is in
    let q = rw e at s.requires.sized.1 in
    record {
      sized = (s.requires.sized.0, q.0, q.1);
      down_value = rw e at s.requires.by_index.3;
    }

pub more_placed-requires-in-Put : goal.more_placed-requires-in-Put
more_placed-requires-in-Put c = let q = rw c.in-Put.is at c.requires.sized.1 in (omega (arith, c.requires.sized.2), omega (arith, q.0.count))

pub fill-requires : goal.fill-requires
fill-requires c =
    let s = c in
    let e = c.in-Fill.is in
    record {
      sized = (s.requires.sized.0, (rw e at s.requires.sized.1).0);
      value_value = rw e at s.requires.by_index.3;
    }

pub perform_named-after-requires : goal.perform_named-after-requires
unfolding whole_record_ok
perform_named-after-requires c =
    let s = c in
    record {
      sized = (s.requires.sized.0, (s.requires.by_index.0, s.requires.by_index.2, both_right _ _ (rw c.in-Whole.is at s.requires.by_index.3)));
      past = s.requires.past;
    }

pub returns-in-Copy : goal.returns-in-Copy
unfolding ran_record_with
returns-in-Copy c =
    let s = c in
    let a = s.args in
    record {
      block_len = s.requires.past.2;
      counts_after = λ tensors. rw c.in-Copy.is (ap (λ (g : Registers). machine g a.memory.now a.counted) c.copy_register-after.ensures);
    }

pub returns-in-Take : goal.returns-in-Take
unfolding ran_record_with
returns-in-Take c = record {
  block_len = c.requires.past.2;
  counts_after = λ tensors. rw (c.in-Take.is, c.more_placed.ensures) (c.take.ensures c.args.counted);
}

pub returns-in-Put : goal.returns-in-Put
unfolding ran_record_with
returns-in-Put c = record {
  block_len = c.requires.past.2;
  counts_after = λ tensors. rw (c.in-Put.is, c.more_placed-in-Put.ensures) (c.put.ensures c.args.counted);
}

pub returns-in-Fill : goal.returns-in-Fill
unfolding ran_record_with
returns-in-Fill c = let a = c.args in record {
  block_len = c.requires.past.2;
  counts_after = λ tensors. rw c.in-Fill.is (c.fill.ensures a.memory.now a.counted);
}

pub returns-in-Whole : goal.returns-in-Whole
unfolding ran_record_with
returns-in-Whole c = record {
  block_len = c.perform_named-after.ensures.block_len;
  counts_after = λ tensors. rw c.in-Whole.is (c.perform_named-after.ensures.c_after tensors c.args.counted);
}
