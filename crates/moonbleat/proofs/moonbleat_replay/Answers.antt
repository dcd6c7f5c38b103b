use Rattle.rows.specs.Rows.{capped}
use Rattle.small_answers.specs.Laws.Small.{replayed_small}
use Rattle.moonbleat.proofs.moonbleat_replay.Goals as goal

pub put_verdict-requires : goal.put_verdict-requires
put_verdict-requires c = rw c.replay-found.ensures (replayed_small _ _ _).verdict

pub put_answer-requires : goal.put_answer-requires
put_answer-requires c = rw (c.cap.ensures, c.replay-found.ensures) (replayed_small _ _ _).answer

pub returns : goal.returns
unfolding capped
returns c =
    let e = c.replay-found.ensures in
    let p = c.put_answer.ensures in
    record {
      value = rw (c.cap.ensures, e) at p.value;
      verdict_after = rw e at c.put_verdict.ensures;
      answer_after = rw (c.cap.ensures, e) at p.answer_after;
    }
