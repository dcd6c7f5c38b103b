-- What a reduce that is not refused may rely on: its source is no empty register, and its shapes agree.
use Rattle.std.specs.Prelude.{◌≡◌, true, ℕ, ◌<◌}
use Rattle.std.proofs.Common.{⊎_elim, arith}
use Rattle.numbers.specs.Laws.Choice.{pick_inv}
use Rattle.refusals.specs.Refusals.{empty_register, shapes_disagree}
use Rattle.sheet.specs.declared.ReduceMode.{ReduceMode}
use Rattle.registers.specs.Laws.Types.{past_empty}
use Rattle.registers.specs.declared.MatrixType.{MatrixType}
use Rattle.reduces.specs.Shapes.{reduce_agrees, reduce_refusal}

pub some_rows : (t : MatrixType) (rows columns : ℕ) (mode : ReduceMode) → reduce_refusal t rows columns mode ≡ 0 → 0 < t.rows
unfolding reduce_refusal
some_rows t rows columns mode e = (past_empty t empty_register _ (omega arith) e).0

pub reduce_agreed : (t : MatrixType) (rows columns : ℕ) (mode : ReduceMode) → reduce_refusal t rows columns mode ≡ 0 → reduce_agrees t rows columns mode ≡ true
unfolding reduce_refusal
reduce_agreed t rows columns mode e =
    ⊎_elim (λ w. w.0) (λ w. absurd (omega (arith, w.1)))
    (pick_inv (reduce_agrees t rows columns mode) 0 shapes_disagree (past_empty t empty_register _ (omega arith) e).1)
