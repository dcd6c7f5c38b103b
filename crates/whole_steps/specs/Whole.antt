-- What a whole step makes: one matrix in one register, by its type and by its element in each row and column. A result may name a
-- source: the old contents are read.
use Rattle.std.specs.Prelude.{List, ℕ}
use Rattle.sheet.specs.declared.WholeStep.{WholeStep}
use Rattle.sheet.specs.declared.WholeStep.TheVariants.{Fill, Reduce, Transpose, MultiplyAdd, Vector}
use Rattle.registers.specs.Types.{the_type, with_type, matrix_type}
use Rattle.registers.specs.Registers.{with_block}
use Rattle.registers.specs.Grids.{block, block_on, made}
use Rattle.registers.specs.declared.MatrixType.{MatrixType}
use Rattle.registers.specs.declared.Registers.{Registers}
use Rattle.reduces.specs.Shapes.{reduced_type}
use Rattle.reduces.specs.Reducing.{reduced}
use Rattle.products.specs.Multiplying.{multiplied}
use Rattle.vectors.specs.Results.{vector_type, vector_result}
use Rattle.whole_steps.specs.Transposing.{transposed_type, transposed}

-- the register that is made
abbrev pub whole_result : WholeStep → ℕ
whole_result (Fill register rows columns kind value) = register
whole_result (Reduce result source rows columns mode combine) = result
whole_result (Transpose result source) = result
whole_result (MultiplyAdd result a b c) = result
whole_result (Vector v) = v.result

-- its matrix's type; of a multiply-add it is C's
abbrev pub whole_type : List MatrixType → WholeStep → MatrixType
whole_type ts (Fill register rows columns kind value) = matrix_type kind rows columns
whole_type ts (Reduce result source rows columns mode combine) = reduced_type (the_type ts source) rows columns
whole_type ts (Transpose result source) = transposed_type (the_type ts source)
whole_type ts (MultiplyAdd result a b c) = the_type ts c
whole_type ts (Vector v) = vector_type v

-- its matrix's elements by row and column, from the registers' types and elements and from memory
abbrev pub whole_element : List MatrixType → List ℕ → List ℕ → WholeStep → ℕ → ℕ → ℕ
whole_element ts es memory (Fill register rows columns kind value) = λ (i j : ℕ). value
whole_element ts es memory (Reduce result source rows columns mode combine) = reduced es source (the_type ts source) mode combine
whole_element ts es memory (Transpose result source) = transposed es source (the_type ts source)
whole_element ts es memory (MultiplyAdd result a b c) = multiplied es a (the_type ts a) b (the_type ts b) c (the_type ts c)
whole_element ts es memory (Vector v) = vector_result es (the_type ts v.input).kind memory v

-- the types, the places of the register, and the registers after a whole step
abbrev pub whole_types : List MatrixType → WholeStep → List MatrixType
whole_types ts w = with_type ts (whole_result w) (whole_type ts w)

abbrev pub whole_block : List MatrixType → List ℕ → List ℕ → WholeStep → List ℕ
whole_block ts es memory w = block (whole_type ts w).rows (whole_type ts w).columns (whole_element ts es memory w)

-- the same elements in the first places of a list
abbrev pub whole_block_on : List ℕ → List MatrixType → List ℕ → List ℕ → WholeStep → List ℕ
whole_block_on d ts es memory w = block_on d (whole_type ts w).rows (whole_type ts w).columns (whole_element ts es memory w)

abbrev pub whole_elements : List MatrixType → List ℕ → List ℕ → WholeStep → List ℕ
whole_elements ts es memory w = with_block es (whole_result w) (whole_block ts es memory w)

abbrev pub whole_done : Registers → List ℕ → WholeStep → Registers
whole_done g memory w = made g (whole_result w) (whole_type g.types w) (whole_element g.types g.elements memory w)
