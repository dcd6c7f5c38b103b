use Rattle.small_answers.specs.Laws.Small.{translated_small}
use Rattle.moonbleat.proofs.moonbleat_translate.Goals as goal

pub overflow_cast-records : goal.overflow_cast-records
overflow_cast-records c = rw c.translate-made.ensures.value record { fits = (translated_small _ _ _ _).0 }

pub put_answer-requires : goal.put_answer-requires
put_answer-requires c = rw c.translate-made.ensures.value (translated_small _ _ _ _).1

pub returns : goal.returns
returns c =
    let d = c.translate-made.ensures in
    let p = c.put_answer.ensures in
    let e = d.value in
    record {
      value = rw e at p.value;
      tape_after = d.tape_after;
      masks_after = d.masks_after;
      records_after = rw e;
      answer_after = rw e at p.answer_after;
    }
