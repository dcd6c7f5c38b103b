use Rattle.small_answers.specs.Laws.Small.{read_small, counts_small}
use Rattle.moonbleat.proofs.moonbleat_read.Goals as goal

pub overflow_cast-counts : goal.overflow_cast-counts
overflow_cast-counts c = rw c.outline_sheet-read.ensures.value record { fits = (counts_small _).0 }

pub overflow_cast-counts-2 : goal.overflow_cast-counts-2
overflow_cast-counts-2 c = rw c.outline_sheet-read.ensures.value record { fits = (counts_small _).1 }

pub overflow_cast-counts-3 : goal.overflow_cast-counts-3
overflow_cast-counts-3 c = rw c.outline_sheet-read.ensures.value record { fits = (counts_small _).2 }

pub put_answer-requires : goal.put_answer-requires
put_answer-requires c = rw c.outline_sheet-read.ensures.value (read_small _)

pub returns : goal.returns
returns c =
    let e = c.outline_sheet-read.ensures.value in
    let p = c.put_answer.ensures in
    record {
      value = rw e at p.value;
      counts_after = rw e;
      answer_after = rw e at p.answer_after;
    }
