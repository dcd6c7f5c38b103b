-- Worked examples.
use Rattle.std.specs.Prelude.{◌≡◌, refl, List, [], ◌∷◌, true, ℕ, pos}
use Rattle.numbers.specs.Choice.{pick, both, between}
use Rattle.numbers.specs.First.{first_from}
use Rattle.kinds.specs.Widths.{width, bytes_of}
use Rattle.kinds.specs.Values.{negative, taken, value}
use Rattle.kinds.specs.Sums.{sum_z}
use Rattle.refusals.specs.Refusals.{outside_memory, stop_at}
use Rattle.sheet.specs.declared.MemoryLayout.TheVariants.{ColumnMajor}
use Rattle.sheet.specs.declared.VectorStep.{VectorStep}
use Rattle.memory.specs.Elements.{element_at}
use Rattle.registers.specs.Types.{matrix_type}
use Rattle.registers.specs.declared.MatrixType.{MatrixType}
use Rattle.vectors.specs.Places.{row_step, column_step, elements_of, end_of}
use Rattle.vectors.specs.Refusals.{input_agrees, memory_refusal, vector_refusal}
use Rattle.vectors.specs.Saturation.{below, above, saturated}
use Rattle.vectors.specs.Components.{packed_kind, component_at}
use Rattle.vectors.specs.Results.{bias_at, result_at, vector_result}

-- s32 -1 as u32 is 0; u32 2^31 as s32 is 2^31-1
negative_as_unsigned : saturated 4 (value 5 4294967295) ≡ pos 0
unfolding saturated below above value negative taken width pick both
negative_as_unsigned = refl

high_as_signed : saturated 5 (value 4 2147483648) ≡ pos 2147483647
unfolding saturated below above value negative taken width pick both
high_as_signed = refl

-- the matrix 1, -2 over 3, 4 of s8, column-major from byte 1 on, and the bias 10, -1 from byte 5 on
abbrev memory : List ℕ
memory = 0 ∷ 1 ∷ 3 ∷ 254 ∷ 4 ∷ 10 ∷ 0 ∷ 0 ∷ 0 ∷ 255 ∷ 255 ∷ 255 ∷ 255 ∷ []

abbrev step : VectorStep
step =
    record {
      result = 0;
      kind = 5;
      input = 0;
      interpretation = 8;
      matrix = 1;
      rows = 2;
      columns = 2;
      layout = ColumnMajor;
      stride = 2;
      offset = 1;
      biased = true;
      bias = 5;
    }

-- the word 0x634DFF05: 5, -1, and two components past K
abbrev word : List ℕ
word = 1666055941 ∷ []

abbrev word_type : MatrixType
word_type = matrix_type 4 1 1

-- 1*5 + -2*-1 + 10 and 3*5 + 4*-1 - 1
first_result : vector_result word 4 memory step 0 0 ≡ 17
unfolding result_at sum_z row_step column_step element_at bytes_of bias_at component_at packed_kind value negative taken width pick both between
first_result = refl

second_result : vector_result word 4 memory step 1 0 ≡ 10
unfolding result_at sum_z row_step column_step element_at bytes_of bias_at component_at packed_kind value negative taken width pick both between
second_result = refl

-- 13 bytes are enough; of 12, the second bias element is outside
not_refused_lem : vector_refusal word_type 13 step ≡ stop_at 0 0
unfolding vector_refusal input_agrees memory_refusal first_from elements_of end_of row_step column_step bytes_of width pick both between
not_refused_lem = refl

bias_outside : vector_refusal word_type 12 step ≡ stop_at outside_memory 5
unfolding vector_refusal input_agrees memory_refusal first_from elements_of end_of row_step column_step bytes_of width pick both between
bias_outside = refl
