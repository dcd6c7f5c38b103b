use mathlib.Core.Path.{◌≡◌, sym, ap, ◌∙◌}
use Rattle.sheet.specs.declared.Sheet.{Sheet}
use Rattle.checking.specs.Checking.{check_refused, checked}
use Rattle.checking.specs.Laws.Readable.{admitted_refused, is_admitted}
use Rattle.checking.specs.declared.CheckAnswer.{CheckAnswer}
use native.Mathlib.Omega.{arith}
use Rattle.checking.proofs.judge.Goals as goal

pub returns-then-refusal-gt0 : goal.returns-then-refusal-gt0
returns-then-refusal-gt0 c =
    let a = c.args in
    let e = c.admit-read.ensures.refusal_value in
    let r = c.check_refused.ensures in record {
      answer_value = r ∙ ap check_refused e ∙ sym (admitted_refused a.sheet.now a.memory_len (rw e at c.if-refusal-gt0.true));
      outlined = λ z.
          absurd (omega (arith, c.if-refusal-gt0.true, z, ap (λ (x : CheckAnswer). x.refusal.number) r));
    }

pub check-answer-requires : goal.check-answer-requires
check-answer-requires c =
    let a = c.args in
    let e = c.admit-read.ensures in
    let zero : c.admit-read.result.refusal.number ≡ 0 = omega (arith, c.if-refusal-gt0.false) in
    (e.outlined zero, (is_admitted a.sheet.now a.memory_len (rw e.refusal_value at zero)).few)

pub returns : goal.returns
returns c =
    let a = c.args in
    let e = c.admit-read.ensures in
    let zero : c.admit-read.result.refusal.number ≡ 0 = omega (arith, c.if-refusal-gt0.false) in
    let r = is_admitted a.sheet.now a.memory_len (rw e.refusal_value at zero) in
    record {
      answer_value = c.check-answer.ensures ∙ ap (λ (x : Sheet). checked x a.memory_len) (sym r.same) ∙ sym r.check;
      outlined = λ z. e.outlined zero;
    }
