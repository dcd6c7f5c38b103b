use mathlib.Core.Path.{◌≡◌}
use Rattle.checking.specs.Laws.Readable.{sheet_readable}
use native.Mathlib.Omega.{arith}
use Rattle.explaining.proofs.explain.Goals as goal

pub explain_sheet-requires : goal.explain_sheet-requires
explain_sheet-requires c =
    let a = c.args in
    let j = c.judge-judged in
    let e = j.ensures in
    let fine : j.result.answer.refusal.number ≡ 0 = omega (arith, c.if-refused-gt0.false) in
    let r = sheet_readable a.sheet.now a.memory_len (rw e.answer_value at fine) in
    (e.outlined fine, r.few, r.clear)
