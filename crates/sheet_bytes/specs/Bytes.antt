-- The bytes of fields, by the table of "The sheet": the edition, layouts and views.
use Rattle.std.specs.Prelude.{ℕ, List, [], ◌∷◌, ◌++◌, get_or}
use Rattle.numbers.specs.Little.{u16_bytes, u32_bytes}
use Rattle.numbers.specs.Lists.{each}
use Rattle.fields.specs.Bytes.{field_bytes}
use Rattle.sheet.specs.Codes.{edition_tag, layout_tag, view_tag, clamp_code, flag_code}
use Rattle.tensor_ranges.specs.Layouts.{the_dimension}
use Rattle.tensor_ranges.specs.Views.{the_view_dimension, sized_rank}
use Rattle.sheet.specs.declared.Dimension.{Dimension}
use Rattle.sheet.specs.declared.Layout.{Layout}
use Rattle.sheet.specs.declared.ViewDimension.{ViewDimension}
use Rattle.sheet.specs.declared.Clip.{Clip}
use Rattle.sheet.specs.declared.View.{View}

abbrev pub edition_field : ℕ → List ℕ
edition_field edition = field_bytes edition_tag (edition ∷ [])

-- block size, dimension, stride, offset, span
unfoldable pub dimension_bytes : Dimension → List ℕ
dimension_bytes d = u16_bytes d.block ++ u16_bytes d.size ++ u16_bytes d.stride ++ u16_bytes d.offset ++ u16_bytes d.span

abbrev pub dimensions_bytes : ℕ → List Dimension → List ℕ
dimensions_bytes rank ds = each rank (λ (k : ℕ). dimension_bytes (the_dimension ds k))

-- dimension count, clamp mode, clamp value; then each dimension
unfoldable pub layout_bytes : Layout → List ℕ
layout_bytes l =
    (l.rank ∷ clamp_code l.mode ∷ []) ++ u32_bytes l.clamp ++ dimensions_bytes l.rank l.dimensions

abbrev pub layout_field : Layout → List ℕ
layout_field l = field_bytes layout_tag (layout_bytes l)

-- the entries of a permutation
abbrev pub entries_bytes : ℕ → List ℕ → List ℕ
entries_bytes rank p = each rank (λ (k : ℕ). get_or p k 0 ∷ [])

unfoldable pub view_dimension_bytes : ViewDimension → List ℕ
view_dimension_bytes d = u16_bytes d.size ++ u16_bytes d.stride

abbrev pub view_dimensions_bytes : ℕ → List ViewDimension → List ℕ
view_dimensions_bytes count ds = each count (λ (k : ℕ). view_dimension_bytes (the_view_dimension ds k))

unfoldable pub clip_bytes : Clip → List ℕ
clip_bytes c = u16_bytes c.offset ++ u16_bytes c.span

-- dimension count, has-dimensions, permutation; each view dimension and stride if it has them; then the clip
unfoldable pub view_bytes : View → List ℕ
view_bytes v =
    (v.rank ∷ flag_code v.sized ∷ [])
    ++ entries_bytes v.rank v.permutation
    ++ view_dimensions_bytes (sized_rank v.sized v.rank) v.dimensions
    ++ clip_bytes v.rows
    ++ clip_bytes v.columns

abbrev pub view_field : View → List ℕ
view_field v = field_bytes view_tag (view_bytes v)
