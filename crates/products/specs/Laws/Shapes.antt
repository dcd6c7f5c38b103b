-- What a multiply-add that is not refused may rely on.
use Rattle.std.specs.Prelude.{◌≡◌, true}
use Rattle.std.proofs.Common.{⊎_elim, arith, eqb-true}
use Rattle.numbers.specs.Laws.Choice.{both_left, both_right, pick_inv}
use Rattle.refusals.specs.Refusals.{empty_register, shapes_disagree}
use Rattle.registers.specs.Laws.Types.{past_empty}
use Rattle.registers.specs.declared.MatrixType.{MatrixType}
use Rattle.products.specs.Shapes.{multiply_agrees, multiply_refusal}

pub agreed : (a b c : MatrixType) → multiply_refusal a b c ≡ 0 → multiply_agrees a b c ≡ true
unfolding multiply_refusal
agreed a b c e =
    let f = (past_empty a empty_register _ (omega arith) e).1 in
    let g = (past_empty b empty_register _ (omega arith) f).1 in
    let h = (past_empty c empty_register _ (omega arith) g).1 in
    ⊎_elim (λ w. w.0) (λ w. absurd (omega (arith, w.1))) (pick_inv (multiply_agrees a b c) 0 shapes_disagree h)

-- the sides that a multiply-add's matrices share
pub rows_agree : (a b c : MatrixType) → multiply_agrees a b c ≡ true → a.rows ≡ c.rows
unfolding multiply_agrees
rows_agree a b c e = eqb-true _ _ (both_left _ _ e)

pub inner_agree : (a b c : MatrixType) → multiply_agrees a b c ≡ true → a.columns ≡ b.rows
unfolding multiply_agrees
inner_agree a b c e = eqb-true _ _ (both_left _ _ (both_right _ _ e))

pub columns_agree : (a b c : MatrixType) → multiply_agrees a b c ≡ true → b.columns ≡ c.columns
unfolding multiply_agrees
columns_agree a b c e = eqb-true _ _ (both_left _ _ (both_right _ _ (both_right _ _ e)))
