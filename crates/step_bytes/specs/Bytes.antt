-- The bytes of steps, by the table of "The sheet".
use Rattle.std.specs.Prelude.{ℕ, List, [], ◌∷◌, ◌++◌}
use Rattle.numbers.specs.Little.{u16_bytes, u32_bytes}
use Rattle.sheet.specs.Codes.{fill_tag, load_tag, store_tag, reduce_tag, transpose_tag, multiply_tag, vector_tag, reduce_code, combine_code, memory_layout_code, flag_code, object_code, viewing_code}
use Rattle.sheet.specs.declared.Window.{Window}
use Rattle.sheet.specs.declared.Step.{Step}
use Rattle.sheet.specs.declared.Step.TheVariants.{Nothing, Load, Store, Whole}
use Rattle.sheet.specs.declared.WholeStep.{WholeStep}
use Rattle.sheet.specs.declared.WholeStep.TheVariants.{Fill, Reduce, Transpose, MultiplyAdd, Vector}
use Rattle.sheet.specs.declared.VectorStep.{VectorStep}
use Rattle.fields.specs.Bytes.{field_bytes}

abbrev pub whole_tag : WholeStep → ℕ
whole_tag (Fill register rows columns kind value) = fill_tag
whole_tag (Reduce result source rows columns mode combine) = reduce_tag
whole_tag (Transpose result source) = transpose_tag
whole_tag (MultiplyAdd result a b c) = multiply_tag
whole_tag (Vector v) = vector_tag

-- an unused place has none of the table's tags
abbrev pub step_tag : Step → ℕ
step_tag Nothing = 0
step_tag (Load register object window) = load_tag
step_tag (Store register window) = store_tag
step_tag (Whole whole) = whole_tag whole

-- layout, view and base
abbrev pub window_bytes : Window → List ℕ
window_bytes w = (w.layout ∷ viewing_code w.view ∷ []) ++ u32_bytes w.base

-- result and its kind, input and its interpretation; matrix interpretation, M, K and memory layout
abbrev pub vector_operands : VectorStep → List ℕ
vector_operands v =
    (v.result ∷ v.kind ∷ v.input ∷ v.interpretation ∷ [])
    ++ (v.matrix ∷ v.rows ∷ v.columns ∷ memory_layout_code v.layout ∷ [])

-- the matrix's stride and offset; whether there is a bias, and its offset
abbrev pub vector_places : VectorStep → List ℕ
vector_places v = u16_bytes v.stride ++ u32_bytes v.offset ++ (flag_code v.biased ∷ []) ++ u32_bytes v.bias

abbrev pub vector_bytes : VectorStep → List ℕ
vector_bytes v = vector_operands v ++ vector_places v

-- the content of a step, in a sheet of an edition
abbrev pub whole_bytes : ℕ → WholeStep → List ℕ
whole_bytes edition (Fill register rows columns kind value) = (register ∷ rows ∷ columns ∷ kind ∷ []) ++ u32_bytes value
whole_bytes edition (Reduce result source rows columns mode combine) =
    result ∷ source ∷ rows ∷ columns ∷ reduce_code mode ∷ combine_code combine ∷ []
whole_bytes edition (Transpose result source) = result ∷ source ∷ []
whole_bytes edition (MultiplyAdd result a b c) = result ∷ a ∷ b ∷ c ∷ []
whole_bytes edition (Vector v) = vector_bytes v

abbrev pub step_bytes : ℕ → Step → List ℕ
step_bytes edition Nothing = []
step_bytes edition (Load register object window) = (register ∷ object_code object ∷ []) ++ window_bytes window
step_bytes edition (Store register window) = (register ∷ []) ++ window_bytes window
step_bytes edition (Whole whole) = whole_bytes edition whole

abbrev pub step_field : ℕ → Step → List ℕ
step_field edition s = field_bytes (step_tag s) (step_bytes edition s)
