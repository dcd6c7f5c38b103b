-- What a view must keep to.
use Rattle.std.specs.Prelude.{ℕ, List, [], Bool, false, not, get_or, replicate, ltb, eqb}
use Rattle.numbers.specs.Choice.{pick, both}
use Rattle.numbers.specs.All.{all}
use Rattle.sheet.specs.Sizes.{rank_places, rank_ok, size_ok}
use Rattle.sheet.specs.declared.ViewDimension.{ViewDimension}
use Rattle.sheet.specs.declared.Clip.{Clip}
use Rattle.sheet.specs.declared.View.{View}

-- an unused place
abbrev pub no_view_dimension : ViewDimension
no_view_dimension = record { size = 0; stride = 0 }

abbrev pub no_clip : Clip
no_clip = record { offset = 0; span = 0 }

unfoldable pub no_view : View
no_view =
    record {
      rank = 0;
      sized = false;
      permutation = replicate rank_places 0;
      dimensions = replicate rank_places no_view_dimension;
      rows = no_clip;
      columns = no_clip;
    }

-- view dimension k, and view k of a list; what stands past a list's end is never asked for
abbrev pub the_view_dimension : List ViewDimension → ℕ → ViewDimension
the_view_dimension ds k = get_or ds k no_view_dimension

abbrev pub the_view : List View → ℕ → View
the_view vs k = get_or vs k (record { rank = 0; sized = false; permutation = []; dimensions = []; rows = no_clip; columns = no_clip })

-- entry k differs from each one before it
unfoldable pub fresh : List ℕ → ℕ → Bool
fresh p k = all k (λ (j : ℕ). not (eqb (get_or p j 0) (get_or p k 0)))

-- of the places the first rank hold each number below rank once, the others 0
unfoldable pub entry_ok : ℕ → List ℕ → ℕ → Bool
entry_ok rank p k = pick (ltb k rank) (both (ltb (get_or p k 0) rank) (fresh p k)) (eqb (get_or p k 0) 0)

abbrev pub permutation_ok : ℕ → List ℕ → Bool
permutation_ok rank p = all rank_places (entry_ok rank p)

unfoldable pub view_dimension_unused : ViewDimension → Bool
view_dimension_unused d = both (eqb d.size 0) (eqb d.stride 0)

-- of the places the first count hold a view dimension, the others nothing; any stride of 16 bits is within Sizes
unfoldable pub view_dimension_at_ok : ℕ → List ViewDimension → ℕ → Bool
view_dimension_at_ok count ds k =
    pick (ltb k count) (size_ok (the_view_dimension ds k).size) (view_dimension_unused (the_view_dimension ds k))

abbrev pub view_dimensions_ok : ℕ → List ViewDimension → Bool
view_dimensions_ok count ds = all rank_places (view_dimension_at_ok count ds)

-- how many dimensions and strides of its own a view has: one for each dimension, or none
unfoldable pub sized_rank : Bool → ℕ → ℕ
sized_rank sized rank = pick sized rank 0

-- any clip of four 16-bit numbers is within Sizes
unfoldable pub view_ok : View → Bool
view_ok v =
    both (rank_ok v.rank)
    (both (permutation_ok v.rank v.permutation)
    (view_dimensions_ok (sized_rank v.sized v.rank) v.dimensions))

unfoldable pub clip_unused : Clip → Bool
clip_unused c = both (eqb c.offset 0) (eqb c.span 0)

unfoldable pub view_unused : View → Bool
view_unused v =
    both (eqb v.rank 0)
    (both (not v.sized)
    (both (permutation_ok 0 v.permutation)
    (both (view_dimensions_ok 0 v.dimensions)
    (both (clip_unused v.rows) (clip_unused v.columns)))))
