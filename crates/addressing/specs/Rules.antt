-- "Where an element goes": rules 1 to 5 for one element, with refusals 12, 13 and 14. Rule 2 is in view_indices/specs/Indices.antt, rule 3 in
-- spans/specs/Spans.antt, rule 4 in clamps/specs/Clamps.antt.
use Rattle.std.specs.Prelude.{ℕ, zero, suc, ◌+◌, ◌-◌, ◌*◌, ◌/◌, ◌%◌, ◌^◌, min, Bool, true, List, ltb, leb, get_or}
use Rattle.numbers.specs.Choice.{pick}
use Rattle.refusals.specs.Refusals.{index_too_large, outside_undefined, outside_memory}
use Rattle.tensor_ranges.specs.Layouts.{the_dimension}
use Rattle.sheet.specs.declared.ClampMode.{ClampMode}
use Rattle.sheet.specs.declared.Clip.{Clip}
use Rattle.sheet.specs.declared.Dimension.{Dimension}
use Rattle.sheet.specs.declared.Layout.{Layout}
use Rattle.sheet.specs.declared.View.{View}
use Rattle.outcomes.specs.declared.Outcome.{Outcome}
use Rattle.outcomes.specs.declared.Outcome.TheVariants as outcome
use Rattle.view_indices.specs.Indices.{view_sizes, view_strides, view_index}
use Rattle.spans.specs.Spans.{span_coordinates}
use Rattle.clamps.specs.Clamps.{coordinate_of, clamped}
use Rattle.addressing.specs.declared.Access.{Access}
use Rattle.addressing.specs.declared.Indexed.{Indexed}
use Rattle.addressing.specs.declared.Indexed.TheVariants.{Skipped, Index}
use Rattle.clamps.specs.declared.Clamped.{Clamped}
use Rattle.clamps.specs.declared.Clamped.TheVariants.{Refused, Discarded, Filled, At}
use Rattle.addressing.specs.declared.Located.{Located}

-- an M by N matrix has M*N elements
abbrev pub elements_of : Access → ℕ
elements_of a = a.rows * a.columns

-- Rule 1: outside the clip: below its offset, or at or past offset plus span
unfoldable pub outside_clip : Clip → ℕ → Bool
outside_clip c x = pick (ltb x c.offset) true (leb (c.offset + c.span) x)

-- Rule 1: the width is the smaller of N and the clip column span
abbrev pub clip_width : View → ℕ → ℕ
clip_width v n = min n v.columns.span

-- Rule 1 with a view: a position whose row or column is outside the clip is skipped
unfoldable pub outside_view : View → ℕ → ℕ → Bool
outside_view v row col = pick (outside_clip v.rows row) true (outside_clip v.columns col)

-- Rule 1 with a view: otherwise both offsets are subtracted and index = row*width+col
abbrev pub clip_index : View → ℕ → ℕ → ℕ → ℕ
clip_index v width row col = (row - v.rows.offset) * width + (col - v.columns.offset)

-- Rule 2, an index through a view, is `view_index` of view_indices/specs/Indices.antt.
-- Rule 3, the span coordinates of an index, is `span_coordinates` of spans/specs/Spans.antt.
-- Rule 4, what becomes of a coordinate, is `clamped` of clamps/specs/Clamps.antt.
-- Rule 5: c divided by block size, floor, times stride
abbrev pub scaled : Dimension → Clamped → Clamped
scaled d Refused = Refused
scaled d Discarded = Discarded
scaled d Filled = Filled
scaled d (At c) = At (c / d.block * d.stride)

-- Rules 4 and 5 for a dimension at its span coordinate
unfoldable pub part : Bool → ClampMode → Dimension → ℕ → Clamped
part load mode d s = scaled d (clamped load mode (coordinate_of d s) d.size)

-- Rule 5: a sum, where the first dimension with no coordinate decides
abbrev pub plus : Clamped → Clamped → Clamped
plus Refused y = Refused
plus Discarded y = Discarded
plus Filled y = Filled
plus (At a) Refused = Refused
plus (At a) Discarded = Discarded
plus (At a) Filled = Filled
plus (At a) (At b) = At (a + b)

-- Rules 4 and 5, for dimensions 0 up to n - 1: the tensor index
unfoldable pub tensor_index : Bool → Layout → List ℕ → ℕ → Clamped
tensor_index load l cs zero = At 0
tensor_index load l cs (suc n) =
    plus (tensor_index load l cs n) (part load l.mode (the_dimension l.dimensions n) (get_or cs n 0))

abbrev pub refused : ℕ → Located
refused number = record { refusal = number; outcome = outcome.Skipped }

abbrev pub answered : Outcome → Located
answered o = record { refusal = 0; outcome = o }

-- Rule 5: the byte is base + tensor index * element size; refusal 14: the element's bytes don't all lie in memory
unfoldable pub addressed : Access → ℕ → Located
addressed a t =
    pick (leb (a.base + t * a.size + a.size) a.memory) (answered (outcome.Placed (a.base + t * a.size))) (refused outside_memory)

-- Rule 4: Constant yields the low bits of the clamp value
abbrev pub low_bits : Access → ℕ
low_bits a = a.layout.clamp % 2 ^ (8 * a.size)

-- each element is skipped, filled, discarded, or has a byte; refusal 13: Undefined and outside in some dimension
abbrev pub settled : Access → Clamped → Located
settled a Refused = refused outside_undefined
settled a Discarded = answered outcome.Discarded
settled a Filled = answered (outcome.Filled (low_bits a))
settled a (At t) = addressed a t

-- Refusal 12: the index after rule 2 is 2^32 or more; then rules 3 to 5
unfoldable pub reached : Access → ℕ → Located
reached a index =
    pick (leb (2 ^ 32) index) (refused index_too_large)
    (settled a (tensor_index a.load a.layout (span_coordinates a.layout index) a.layout.rank))

-- Rules 1 and 2: the index of element (row, col); without a view it is row*N+col
unfoldable pub indexed : Access → ℕ → ℕ → Indexed
indexed a row col =
    pick a.viewed
    (pick (outside_view a.view row col) Skipped
    (Index (view_index a.view (view_sizes a.layout a.view) (view_strides a.layout a.view) (clip_index a.view (clip_width a.view a.columns) row col))))
    (Index (row * a.columns + col))

-- Rules 3 to 5, for what rules 1 and 2 give
abbrev pub landed : Access → Indexed → Located
landed a Skipped = answered outcome.Skipped
landed a (Index i) = reached a i

-- Rules 1 to 5: element (row, col)
unfoldable pub located : Access → ℕ → ℕ → Located
located a row col = landed a (indexed a row col)
