-- When a multiply-add is refused by the types of A, B and C. Its result's type is C's.
use Rattle.std.specs.Prelude.{Bool, ℕ, eqb}
use Rattle.numbers.specs.Choice.{pick, both}
use Rattle.kinds.specs.Widths.{word_kind}
use Rattle.refusals.specs.Refusals.{empty_register, shapes_disagree}
use Rattle.registers.specs.Types.{is_empty}
use Rattle.registers.specs.declared.MatrixType.{MatrixType}

-- A, B, C are MxK, KxN, MxN; C is of kind 4 or 5
unfoldable pub multiply_agrees : MatrixType → MatrixType → MatrixType → Bool
multiply_agrees a b c =
    both (eqb a.rows c.rows)
    (both (eqb a.columns b.rows)
    (both (eqb b.columns c.columns)
    (word_kind c.kind)))

-- a register read is empty, then shapes disagree, else 0
unfoldable pub multiply_refusal : MatrixType → MatrixType → MatrixType → ℕ
multiply_refusal a b c =
    pick (is_empty a) empty_register
    (pick (is_empty b) empty_register
    (pick (is_empty c) empty_register
    (pick (multiply_agrees a b c) 0 shapes_disagree)))
