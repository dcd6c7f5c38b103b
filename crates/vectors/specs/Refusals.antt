-- Refusals 7, 8 and 14 of a vector step, in order, by the type of its input register and the memory's length.
use Rattle.std.specs.Prelude.{Bool, ℕ, ◌+◌, ◌/◌, eqb, ltb}
use Rattle.numbers.specs.Choice.{pick, both}
use Rattle.numbers.specs.First.{first_from}
use Rattle.kinds.specs.Widths.{u32}
use Rattle.kinds.specs.Interpretations.{packed}
use Rattle.refusals.specs.Refusals.{empty_register, shapes_disagree, outside_memory, stop_at}
use Rattle.refusals.specs.declared.Stop.{Stop}
use Rattle.sheet.specs.declared.VectorStep.{VectorStep}
use Rattle.registers.specs.Types.{is_empty}
use Rattle.registers.specs.declared.MatrixType.{MatrixType}
use Rattle.vectors.specs.Places.{elements_of, end_of}

-- the input is K by 1; a packed one is a u32 register of one column that holds four components a word, in exactly enough words for K
unfoldable pub input_agrees : MatrixType → VectorStep → Bool
input_agrees t v =
    both (eqb t.columns 1)
    (pick (packed v.interpretation)
    (both (eqb t.kind u32) (eqb t.rows ((v.columns + 3) / 4)))
    (eqb t.rows v.columns))

-- the element's bytes don't all lie in memory
abbrev pub outside : VectorStep → ℕ → ℕ → Bool
outside v memory e = ltb memory (end_of v e)

abbrev pub first_outside : VectorStep → ℕ → ℕ
first_outside v memory = first_from (outside v memory) 0 (elements_of v)

-- 14 at the first matrix element by row, then bias element, outside
unfoldable pub memory_refusal : VectorStep → ℕ → Stop
memory_refusal v memory = pick (ltb (first_outside v memory) (elements_of v)) (stop_at outside_memory (first_outside v memory)) (stop_at 0 0)

-- 7 where the input register is empty, then 8 for its shape, or packed and not u32, then 14; 0 where the step is not refused
unfoldable pub vector_refusal : MatrixType → ℕ → VectorStep → Stop
vector_refusal t memory v =
    pick (is_empty t) (stop_at empty_register 0)
    (pick (input_agrees t v) (memory_refusal v memory)
    (stop_at shapes_disagree 0))
