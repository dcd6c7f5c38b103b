use Prim.Native.Nat.{◌<◌, ◌≤◌}
use mathlib.Core.Path.{refl}
use lib.ListN.{length}
use Rattle.sheet_reader.specs.Reading.{read_sheet}
use Rattle.small_answers.specs.Laws.Small.{read_small, written_small}
use Rattle.moonbleat.proofs.Laws.{rewritten_refused, room_refused, rewritten_read, room_read}
use Rattle.moonbleat.proofs.moonbleat_rewrite.Goals as goal

pub put_answer-requires : goal.put_answer-requires
put_answer-requires c = rw c.read_sheet-read.ensures (read_small _)

pub returns-then-refusal-gt0 : goal.returns-then-refusal-gt0
returns-then-refusal-gt0 c =
    let d = c in
    let a = d.args in
    let s = a.sheet.now in
    let e = d.read_sheet-read.ensures in
    let p = c.put_answer.ensures in
    let n : 0 < (read_sheet s).refusal.number = rw e at c.if-refusal-gt0.true in
    rw (rewritten_refused s (length a.out.now) n, room_refused s a.out.now n) (record {
      value = rw e at p.value;
      out_after = refl;
      answer_after = rw e at p.answer_after;
    })

pub put_answer-requires-2 : goal.put_answer-requires-2
put_answer-requires-2 c = rw c.write_sheet-written.ensures.0 (written_small _ _)

pub returns : goal.returns
returns c =
    let w = c.write_sheet-written.ensures in
    let d = c in
    let a = d.args in
    let s = a.sheet.now in
    let e = d.read_sheet-read.ensures in
    let p = c.put_answer-2.ensures in
    let n : (read_sheet s).refusal.number ≤ 0 = rw e at c.if-refusal-gt0.false in
    rw (rewritten_read s (length a.out.now) n, room_read s a.out.now n)
    (record {
      value = rw (w.0, e) at p.value;
      out_after = rw e at w.1;
      answer_after = rw (w.0, e) at p.answer_after;
    })
