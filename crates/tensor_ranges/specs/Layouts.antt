-- What a layout must keep to.
use Rattle.std.specs.Prelude.{ℕ, List, [], Bool, get_or, replicate, ltb, eqb}
use Rattle.numbers.specs.Choice.{pick, both}
use Rattle.numbers.specs.All.{all}
use Rattle.sheet.specs.Sizes.{rank_places, rank_ok, size_ok, offset_ok}
use Rattle.sheet.specs.Codes.{undefined}
use Rattle.sheet.specs.declared.ClampMode.TheVariants.{Undefined}
use Rattle.sheet.specs.declared.Dimension.{Dimension}
use Rattle.sheet.specs.declared.Layout.{Layout}

-- an unused place
abbrev pub no_dimension : Dimension
no_dimension = record { block = 0; size = 0; stride = 0; offset = 0; span = 0 }

unfoldable pub no_layout : Layout
no_layout = record { rank = 0; mode = Undefined; clamp = 0; dimensions = replicate rank_places no_dimension }

-- dimension k, and layout k of a list; what stands past a list's end is never asked for
abbrev pub the_dimension : List Dimension → ℕ → Dimension
the_dimension ds k = get_or ds k no_dimension

abbrev pub the_layout : List Layout → ℕ → Layout
the_layout ls k = get_or ls k (record { rank = 0; mode = Undefined; clamp = 0; dimensions = [] })

-- any stride of 16 bits is within Sizes
unfoldable pub dimension_ok : Dimension → Bool
dimension_ok d = both (size_ok d.block) (both (size_ok d.size) (both (offset_ok d.offset) (size_ok d.span)))

unfoldable pub dimension_unused : Dimension → Bool
dimension_unused d =
    both (eqb d.block 0) (both (eqb d.size 0) (both (eqb d.stride 0) (both (eqb d.offset 0) (eqb d.span 0))))

-- of the places the first rank hold a dimension, the others nothing
unfoldable pub dimension_at_ok : ℕ → List Dimension → ℕ → Bool
dimension_at_ok rank ds k = pick (ltb k rank) (dimension_ok (the_dimension ds k)) (dimension_unused (the_dimension ds k))

abbrev pub dimensions_ok : ℕ → List Dimension → Bool
dimensions_ok rank ds = all rank_places (dimension_at_ok rank ds)

unfoldable pub layout_ok : Layout → Bool
layout_ok l = both (rank_ok l.rank) (dimensions_ok l.rank l.dimensions)

unfoldable pub layout_unused : Layout → Bool
layout_unused l =
    both (eqb l.rank 0) (both (undefined l.mode) (both (eqb l.clamp 0) (dimensions_ok 0 l.dimensions)))
