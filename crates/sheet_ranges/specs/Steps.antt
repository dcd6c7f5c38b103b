-- What a step must keep to, in a sheet of an edition with so many layouts and views.
use Rattle.std.specs.Prelude.{ℕ, List, get_or, Bool, true, false, not, ltb, eqb}
use Rattle.numbers.specs.Choice.{pick, both}
use Rattle.kinds.specs.Widths.{kind_ok, word_kind, fits}
use Rattle.kinds.specs.Interpretations.{interpretation_ok}
use Rattle.sheet.specs.Sizes.{register_ok}
use Rattle.sheet.specs.Editions.{has_vectors, object_is_zeros, side_ok}
use Rattle.sheet.specs.declared.Object.{Object}
use Rattle.sheet.specs.declared.Object.TheVariants.{Kept, Zeros, Register}
use Rattle.sheet.specs.declared.Viewing.{Viewing}
use Rattle.sheet.specs.declared.Viewing.TheVariants.{Plain, Through}
use Rattle.sheet.specs.declared.Window.{Window}
use Rattle.sheet.specs.declared.Step.{Step}
use Rattle.sheet.specs.declared.Step.TheVariants.{Nothing, Load, Store, Whole}
use Rattle.sheet.specs.declared.WholeStep.{WholeStep}
use Rattle.sheet.specs.declared.WholeStep.TheVariants.{Fill, Reduce, Transpose, MultiplyAdd, Vector}
use Rattle.sheet.specs.declared.VectorStep.{VectorStep}
use Rattle.sheet.specs.declared.Cell.{Cell}

-- the place of a step that is not given
abbrev pub no_cell : Cell
no_cell = record { step = Nothing }

abbrev pub the_step : List Cell → ℕ → Step
the_step cs k = (get_or cs k no_cell).step

-- rows, columns, kind and value
unfoldable pub fill_ok : ℕ → ℕ → ℕ → ℕ → ℕ → ℕ → Bool
fill_ok edition register rows columns kind value =
    both (register_ok register)
    (both (side_ok edition rows)
    (both (side_ok edition columns)
    (both (kind_ok kind)
    (fits kind value))))

-- a register, or what no object means in the edition
abbrev pub object_ok : ℕ → Object → Bool
object_ok edition Kept = not (object_is_zeros edition)
object_ok edition Zeros = object_is_zeros edition
object_ok edition (Register register) = register_ok register

abbrev pub viewing_ok : ℕ → Viewing → Bool
viewing_ok views Plain = true
viewing_ok views (Through view) = ltb view views

-- a layout and a view that are given; any base of 32 bits is within Sizes
unfoldable pub window_ok : ℕ → ℕ → Window → Bool
window_ok layouts views w = both (ltb w.layout layouts) (viewing_ok views w.view)

unfoldable pub load_ok : ℕ → ℕ → ℕ → ℕ → Object → Window → Bool
load_ok edition layouts views register object window =
    both (register_ok register) (both (object_ok edition object) (window_ok layouts views window))

unfoldable pub store_ok : ℕ → ℕ → ℕ → Window → Bool
store_ok layouts views register window = both (register_ok register) (window_ok layouts views window)

unfoldable pub reduce_ok : ℕ → ℕ → ℕ → ℕ → ℕ → Bool
reduce_ok edition result source rows columns =
    both (register_ok result) (both (register_ok source) (both (side_ok edition rows) (side_ok edition columns)))

unfoldable pub transpose_ok : ℕ → ℕ → Bool
transpose_ok result source = both (register_ok result) (register_ok source)

unfoldable pub multiply_ok : ℕ → ℕ → ℕ → ℕ → Bool
multiply_ok result a b c = both (register_ok result) (both (register_ok a) (both (register_ok b) (register_ok c)))

-- without a bias there is no bias offset
unfoldable pub bias_ok : VectorStep → Bool
bias_ok v = pick v.biased true (eqb v.bias 0)

unfoldable pub vector_ok : ℕ → VectorStep → Bool
vector_ok edition v =
    both (has_vectors edition)
    (both (register_ok v.result)
    (both (word_kind v.kind)
    (both (register_ok v.input)
    (both (interpretation_ok v.interpretation)
    (both (kind_ok v.matrix)
    (both (side_ok edition v.rows)
    (both (side_ok edition v.columns)
    (bias_ok v))))))))

abbrev pub whole_ok : ℕ → WholeStep → Bool
whole_ok edition (Fill register rows columns kind value) = fill_ok edition register rows columns kind value
whole_ok edition (Reduce result source rows columns mode combine) = reduce_ok edition result source rows columns
whole_ok edition (Transpose result source) = transpose_ok result source
whole_ok edition (MultiplyAdd result a b c) = multiply_ok result a b c
whole_ok edition (Vector v) = vector_ok edition v

abbrev pub step_ok : ℕ → ℕ → ℕ → Step → Bool
step_ok edition layouts views Nothing = false
step_ok edition layouts views (Load register object window) = load_ok edition layouts views register object window
step_ok edition layouts views (Store register window) = store_ok layouts views register window
step_ok edition layouts views (Whole whole) = whole_ok edition whole

abbrev pub step_unused : Step → Bool
step_unused Nothing = true
step_unused (Load register object window) = false
step_unused (Store register window) = false
step_unused (Whole whole) = false
