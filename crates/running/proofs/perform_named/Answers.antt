use mathlib.Core.Path.{refl, sym}
use mathlib.Core.Bool.{true≢false}
use borrow.Author.Tests.{eqb-true}
use Rattle.whole_steps.proofs.Laws.Within.{whole_ok_lem}
use Rattle.carrying.specs.Steps.{machine, registers_of, performed_step}
use Rattle.running.proofs.perform_named.Goals as goal

pub perform_whole-requires : goal.perform_whole-requires
perform_whole-requires c =
    let s = c in
    let e = c.in-Whole.is in
    record {
      whole_ok = (whole_ok_lem _ _ (rw e at (s.requires.sized.1.1.ok (rw e refl))), s.requires.sized.0, (s.requires.sized.1.0, eqb-true _ _ (rw e at s.requires.sized.1.2)));
      past = s.requires.past;
    }

pub returns-in-Nothing : goal.returns-in-Nothing
unfolding performed_step
returns-in-Nothing c = record {
  block_len = c.requires.past.2;
  c_after = λ tensors n. rw c.in-Nothing.is;
}

pub returns-in-Load : goal.returns-in-Load
returns-in-Load c =
    absurd (true≢false (sym (rw c.in-Load.is at c.requires.sized.1.2)))

pub returns-in-Store : goal.returns-in-Store
returns-in-Store c =
    absurd (true≢false (sym (rw c.in-Store.is at c.requires.sized.1.2)))

pub returns-in-Whole : goal.returns-in-Whole
unfolding performed_step
returns-in-Whole c =
    let s = c in
    let p = c.perform_whole.ensures in
    record {
      block_len = p.block_len;
      c_after = λ tensors n. rw c.in-Whole.is (λ i. machine (registers_of (p.value i) (p.elements_after i)) s.args.memory.now n);
    }
