use native.Mathlib.Omega.{arith}
use Rattle.small_answers.specs.Laws.Small.{explained_small}
use Rattle.moonbleat.proofs.moonbleat_outcome.Goals as goal

pub put_outcome-requires : goal.put_outcome-requires
put_outcome-requires c =
    let a = c.args in
    rw c.explain-found.ensures (explained_small a.sheet.now a.memory_len a.step a.element (omega arith) (omega arith)).outcome

pub put_answer-requires : goal.put_answer-requires
put_answer-requires c =
    let a = c.args in
    rw c.explain-found.ensures (explained_small a.sheet.now a.memory_len a.step a.element (omega arith) (omega arith)).answer

pub returns : goal.returns
returns c =
    let e = c.explain-found.ensures in
    let p = c.put_answer.ensures in
    record {
      value = rw e at p.value;
      outcome_after = rw e at c.put_outcome.ensures;
      answer_after = rw e at p.answer_after;
    }
