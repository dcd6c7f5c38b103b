use mathlib.Core.Path.{◌≡◌, sym, ap, ap₂, ◌∙◌}
use lib.ListN.{length}
use Rattle.refusals.specs.declared.Refusal.{Refusal}
use Rattle.checking.specs.Laws.Readable.{sheet_readable}
use Rattle.checking.specs.declared.CheckAnswer.{CheckAnswer}
use Rattle.carrying.specs.Steps.{registers_of}
use Rattle.carrying.specs.Carrying.{carry_answer, answer_with}
use Rattle.carrying.proofs.Laws.{carried_refused, memory_refused, carried_accepted, memory_accepted}
use native.Mathlib.Omega.{arith}
use Rattle.carrying.proofs.carry_out.Goals as goal

pub returns-then-refused-gt0 : goal.returns-then-refused-gt0
returns-then-refused-gt0 c =
    let a = c.args in
    let u = sym c.judge-judged.ensures.answer_value in
    let n = c.if-refused-gt0.true in
    record {
      elements_after = ap₂ answer_with c.carry_refused.ensures c.empty_elements.ensures ∙ carried_refused a.sheet.now a.memory.now u n;
      memory_after = memory_refused a.sheet.now a.memory.now u n;
    }

pub perform-done-requires : goal.perform-done-requires
perform-done-requires c =
    let j = c.judge-judged in
    let a = c.args in
    let z : j.result.answer.refusal.number ≡ 0 = omega (arith, c.if-refused-gt0.false) in
    let r = sheet_readable a.sheet.now (length a.memory.now) (ap (λ (x : CheckAnswer). x.refusal.number) (sym j.ensures.answer_value) ∙ z) in
    record {
      elements_value = c.empty_elements.ensures;
      outlined = (j.ensures.outlined z, r.few, r.clear);
    }

pub returns : goal.returns
returns c =
    let j = c.judge-judged in
    let a = c.args in
    let s = a.sheet.now in
    let m = a.memory.now in
    let z : j.result.answer.refusal.number ≡ 0 = omega (arith, c.if-refused-gt0.false) in
    let n = ap (λ (x : CheckAnswer). x.refusal.number) (sym j.ensures.answer_value) ∙ z in
    let g = c.perform-done in
    record {
      elements_after = ap (λ (r : Refusal). carry_answer r (registers_of g.result.types g.new.elements) g.result.counts) c.not_refused.ensures ∙ carried_accepted s m n g.ensures;
      memory_after = memory_accepted s m n g.ensures;
    }
