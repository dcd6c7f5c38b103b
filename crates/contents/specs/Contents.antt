-- What the content of a layout's and of a view's field says, by the table of "The sheet".
use Rattle.std.specs.Prelude.{ℕ, ◌+◌, ◌*◌, ◌%◌, List, Bool, true, get_or, replicate, leb, eqb}
use Rattle.numbers.specs.Choice.{pick, both, between}
use Rattle.numbers.specs.Little.{u16_at, u32_at}
use Rattle.numbers.specs.Lists.{line}
use Rattle.sheet.specs.Sizes.{rank_places, rank_ok}
use Rattle.sheet.specs.Codes.{clamp_mode}
use Rattle.tensor_ranges.specs.Layouts.{no_dimension}
use Rattle.tensor_ranges.specs.Views.{no_view_dimension, sized_rank}
use Rattle.sheet.specs.declared.Dimension.{Dimension}
use Rattle.sheet.specs.declared.Layout.{Layout}
use Rattle.sheet.specs.declared.ViewDimension.{ViewDimension}
use Rattle.sheet.specs.declared.Clip.{Clip}
use Rattle.sheet.specs.declared.View.{View}

-- 0x10: dimension count, clamp mode, clamp value; per dimension block size, dimension, stride, offset and span
unfoldable pub dimension_at : List ℕ → ℕ → Dimension
dimension_at s p =
    record { block = u16_at s p; size = u16_at s (p + 2); stride = u16_at s (p + 4); offset = u16_at s (p + 6); span = u16_at s (p + 8) }

unfoldable pub dimensions_at : List ℕ → ℕ → ℕ → List Dimension
dimensions_at s p rank = line (replicate rank_places no_dimension) 0 (λ (k : ℕ). dimension_at s (p + k * 10)) rank

unfoldable pub layout_at : List ℕ → ℕ → Layout
layout_at s p =
    record {
      rank = get_or s p 0;
      mode = clamp_mode (get_or s (p + 1) 0);
      clamp = u32_at s (p + 2);
      dimensions = dimensions_at s (p + 6) (get_or s p 0);
    }

abbrev pub layout_length : ℕ → ℕ
layout_length rank = 6 + rank * 10

-- lengths 16, 26, 36, 46, 56
unfoldable pub layout_length_ok : ℕ → Bool
layout_length_ok len = both (between 16 56 len) (eqb (len % 10) 6)

-- the dimension count gives the length, and the clamp mode is in the table
unfoldable pub layout_head_ok : List ℕ → ℕ → ℕ → Bool
layout_head_ok s p len =
    both (rank_ok (get_or s p 0)) (both (eqb (layout_length (get_or s p 0)) len) (leb (get_or s (p + 1) 0) 4))

-- 0x11: dimension count V, has-dimensions, V permutation bytes; if it has dimensions, per dimension view dimension and view stride; then
-- clip row offset, row span, column offset and column span
unfoldable pub permutation_at : List ℕ → ℕ → ℕ → List ℕ
permutation_at s p rank = line (replicate rank_places 0) 0 (λ (k : ℕ). get_or s (p + k) 0) rank

unfoldable pub view_dimension_at : List ℕ → ℕ → ViewDimension
view_dimension_at s p = record { size = u16_at s p; stride = u16_at s (p + 2) }

unfoldable pub view_dimensions_at : List ℕ → ℕ → ℕ → List ViewDimension
view_dimensions_at s p count = line (replicate rank_places no_view_dimension) 0 (λ (k : ℕ). view_dimension_at s (p + k * 4)) count

unfoldable pub clip_at : List ℕ → ℕ → Clip
clip_at s p = record { offset = u16_at s p; span = u16_at s (p + 2) }

-- a view of V dimensions, `count` of them with sizes and strides (V or none)
unfoldable pub view_of : List ℕ → ℕ → ℕ → Bool → ℕ → View
view_of s p rank sized count =
    record {
      rank = rank;
      sized = sized;
      permutation = permutation_at s (p + 2) rank;
      dimensions = view_dimensions_at s (p + 2 + rank) count;
      rows = clip_at s (p + 2 + rank + count * 4);
      columns = clip_at s (p + 6 + rank + count * 4);
    }

abbrev pub has_dimensions : List ℕ → ℕ → Bool
has_dimensions s p = eqb (get_or s (p + 1) 0) 1

unfoldable pub view_at : List ℕ → ℕ → View
view_at s p = view_of s p (get_or s p 0) (has_dimensions s p) (sized_rank (has_dimensions s p) (get_or s p 0))

abbrev pub view_length : ℕ → ℕ → ℕ
view_length rank count = 10 + rank + count * 4

-- lengths 11 to 15, 20, 25, 30, 35
unfoldable pub view_length_ok : ℕ → Bool
view_length_ok len = pick (between 11 15 len) true (both (between 20 35 len) (eqb (len % 5) 0))

unfoldable pub view_head_ok : List ℕ → ℕ → ℕ → Bool
view_head_ok s p len =
    both (rank_ok (get_or s p 0))
    (both (leb (get_or s (p + 1) 0) 1)
    (eqb (view_length (get_or s p 0) (sized_rank (has_dimensions s p) (get_or s p 0))) len))
