use lib.ListN.{length}
use Prim.Native.Nat.{◌<◌, ◌≤◌}
use mathlib.Core.Path.{◌≡◌, sym, ap, ap₂, ◌∙◌}
use Rattle.refusals.specs.declared.Refusal.{Refusal}
use Rattle.sheet_reader.specs.Parts.{sheet_of}
use Rattle.checking.specs.Checking.{admitted}
use Rattle.carrying.specs.Steps.{registers_of}
use Rattle.carrying.specs.Carrying.{carry_answer, answer_with}
use Rattle.records.specs.Laws.Records.{fit_few, fit_room}
use Rattle.judging.specs.Judging.{tape_refusal}
use Rattle.judging.specs.Laws.Turns.{tape_fit, tape_clear}
use Rattle.running.specs.Running.{run_refusal}
use Rattle.running.proofs.Laws.Answers.{run_unread, run_readable, run_refused, ran_refused, run_accepted, ran_accepted}
use native.Mathlib.Omega.{arith}
use Rattle.running.proofs.run_tape.Goals as goal
use Rattle.running.proofs.run_tape.Goals.{After-tape_refusal-refused}

-- the tape of an admitted sheet, judged
told : (c : After-tape_refusal-refused) → let a = c.args in run_refusal a.sheet.now a.tape.now a.records (length a.memory.now) ≡ c.tape_refusal-refused.result
told c =
    let a = c.args in
    let j = c.admit-read in
    let z : j.result.refusal.number ≡ 0 = omega (arith, c.if-unread-gt0.false) in
    run_readable a.sheet.now a.tape.now a.records (length a.memory.now) (ap (λ (r : Refusal). r.number) (sym j.ensures.refusal_value) ∙ z)
    ∙ sym c.tape_refusal-refused.ensures

pub returns-then-unread-gt0 : goal.returns-then-unread-gt0
returns-then-unread-gt0 c =
    let a = c.args in
    let s = a.sheet.now in
    let t = a.tape.now in
    let m = a.memory.now in
    let e = c.admit-read.ensures.refusal_value in
    let n : 0 < (admitted s (length m)).refusal.number = rw e at c.if-unread-gt0.true in
    let u = run_unread s t a.records (length m) n ∙ sym e in
    record {
      elements_after = ap₂ answer_with c.carry_refused.ensures c.empty_elements.ensures ∙ run_refused s t a.records m u c.if-unread-gt0.true;
      memory_after = ran_refused s t a.records m u c.if-unread-gt0.true;
    }

pub tape_refusal-refused-requires : goal.tape_refusal-refused-requires
tape_refusal-refused-requires c = c.admit-read.ensures.outlined (omega (arith, c.if-unread-gt0.false))

pub returns-then-refused-gt0 : goal.returns-then-refused-gt0
returns-then-refused-gt0 c =
    let a = c.args in
    let s = a.sheet.now in
    let t = a.tape.now in
    let m = a.memory.now in
    let u = told (goal.at.returns-then-refused-gt0 c).After-tape_refusal-refused in
    record {
      elements_after = ap₂ answer_with c.carry_refused-then-refused-gt0.ensures c.empty_elements.ensures ∙ run_refused s t a.records m u c.if-refused-gt0.true;
      memory_after = ran_refused s t a.records m u c.if-refused-gt0.true;
    }

pub run_records-done-requires : goal.run_records-done-requires
run_records-done-requires c =
    let a = c.args in
    let t = a.tape.now in
    let sh = sheet_of a.sheet.now in
    let len = length a.memory.now in
    let y : (tape_refusal sh t a.records len).number ≤ 0 = rw c.tape_refusal-refused.ensures at c.if-refused-gt0.false in
    let f = tape_fit sh t a.records len (omega arith) in
    let o = c.admit-read.ensures.outlined (omega (arith, c.if-unread-gt0.false)) in
    record {
      elements_value = c.empty_elements.ensures;
      outlined = (o, fit_few _ _ _ f, fit_room _ _ _ f);
      tape_value = tape_clear sh t a.records len (omega arith);
    }

pub returns : goal.returns
returns c =
    let a = c.args in
    let s = a.sheet.now in
    let t = a.tape.now in
    let m = a.memory.now in
    let q = (goal.at.returns c).After-tape_refusal-refused in
    let y : q.tape_refusal-refused.result.number ≡ 0 = omega (arith, c.if-refused-gt0.false) in
    let n = ap (λ (r : Refusal). r.number) (told q) ∙ y in
    let g = c.run_records-done in
    record {
      elements_after = ap (λ (r : Refusal). carry_answer r (registers_of g.result.types g.new.elements) g.result.counts) c.not_refused.ensures ∙ run_accepted s t a.records m n g.ensures;
      memory_after = ran_accepted s t a.records m n g.ensures;
    }
