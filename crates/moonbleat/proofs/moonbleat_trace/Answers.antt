use Rattle.small_answers.specs.Laws.Small.{traced_small}
use Rattle.moonbleat.proofs.moonbleat_trace.Goals as goal

pub put_answer-requires : goal.put_answer-requires
put_answer-requires c = rw c.trace-made.ensures.value (traced_small _ _ _)

pub returns : goal.returns
returns c =
    let d = c.trace-made.ensures in
    let p = c.put_answer.ensures in
    record {
      value = rw d.value at p.value;
      out_after = d.out_after;
      answer_after = rw d.value at p.answer_after;
    }
