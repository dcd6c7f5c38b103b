use mathlib.Core.Path.{◌≡◌}
use Rattle.checking.specs.Laws.Readable.{sheet_readable}
use native.Mathlib.Omega.{arith}
use Rattle.dividing.proofs.count_divisions.Goals as goal

pub sheet_divisions-requires : goal.sheet_divisions-requires
sheet_divisions-requires c =
    let a = c.args in
    let j = c.judge-judged in
    let e = j.ensures in
    let fine : j.result.answer.refusal.number ≡ 0 = omega (arith, c.if-refused-gt0.false) in
    let r = sheet_readable a.sheet.now a.memory_len (rw e.answer_value at fine) in
    (e.outlined fine, r.few, r.clear)
