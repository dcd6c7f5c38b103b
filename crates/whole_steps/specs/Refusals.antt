-- When a whole step is refused, in a sheet of an edition, by the registers' types and the memory's length: a number, and the element that it
-- names.
use Rattle.std.specs.Prelude.{List, ℕ}
use Rattle.refusals.specs.Refusals.{stop_at}
use Rattle.refusals.specs.declared.Stop.{Stop}
use Rattle.sheet.specs.declared.WholeStep.{WholeStep}
use Rattle.sheet.specs.declared.WholeStep.TheVariants.{Fill, Reduce, Transpose, MultiplyAdd, Vector}
use Rattle.registers.specs.Types.{the_type}
use Rattle.registers.specs.declared.MatrixType.{MatrixType}
use Rattle.reduces.specs.Shapes.{reduce_refusal}
use Rattle.products.specs.Shapes.{multiply_refusal}
use Rattle.vectors.specs.Refusals.{vector_refusal}
use Rattle.whole_steps.specs.Transposing.{transpose_refusal}

-- only a vector step names an element: one that it reads from memory
abbrev pub whole_refusal : ℕ → List MatrixType → ℕ → WholeStep → Stop
whole_refusal edition ts len (Fill register rows columns kind value) = stop_at 0 0
whole_refusal edition ts len (Reduce result source rows columns mode combine) = stop_at (reduce_refusal (the_type ts source) rows columns mode) 0
whole_refusal edition ts len (Transpose result source) = stop_at (transpose_refusal (the_type ts source)) 0
whole_refusal edition ts len (MultiplyAdd result a b c) = stop_at (multiply_refusal (the_type ts a) (the_type ts b) (the_type ts c)) 0
whole_refusal edition ts len (Vector v) = vector_refusal (the_type ts v.input) len v
