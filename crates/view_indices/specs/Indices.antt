-- Rule 2 of "Where an element goes": an index through a view.
use Rattle.std.specs.Prelude.{ℕ, zero, suc, ◌+◌, ◌*◌, ◌/◌, ◌%◌, List, [], ◌∷◌, ltb, get_or, set, replicate}
use Rattle.numbers.specs.Choice.{pick}
use Rattle.tensor_ranges.specs.Layouts.{the_dimension}
use Rattle.tensor_ranges.specs.Views.{the_view_dimension}
use Rattle.sheet.specs.declared.Layout.{Layout}
use Rattle.sheet.specs.declared.View.{View}
use Rattle.sheet.specs.Sizes.{rank_places}

-- the list g 0 .. g 4
abbrev pub five : (ℕ → ℕ) → List ℕ
five g = g 0 ∷ g 1 ∷ g 2 ∷ g 3 ∷ g 4 ∷ []

abbrev pub span_of : Layout → ℕ → ℕ
span_of l i = (the_dimension l.dimensions i).span

-- Rule 2, row-major over the spans: the stride of dimension i of n is the product of the later spans
unfoldable pub row_major : (ℕ → ℕ) → ℕ → ℕ → ℕ
row_major span zero i = 1
row_major span (suc n) i = pick (ltb i n) (row_major span n i * span n) 1

-- Rule 2: sizes are the view dimensions, or the layout's spans if it has none
unfoldable pub view_sizes : Layout → View → List ℕ
view_sizes l v = pick v.sized (five (λ (i : ℕ). (the_view_dimension v.dimensions i).size)) (five (span_of l))

-- Rule 2: the stride is the view's, or row-major over the spans
unfoldable pub view_strides : Layout → View → List ℕ
view_strides l v =
    pick v.sized (five (λ (i : ℕ). (the_view_dimension v.dimensions i).stride)) (five (row_major (span_of l) l.rank))

-- Rules 2 and 3: from the last of k dimensions to the first, with i the dimension's place:
-- coordinate i = index mod size i, then index is divided by size i; what is left of the index after the last is dropped
unfoldable pub coordinates : (ℕ → ℕ) → (ℕ → ℕ) → ℕ → ℕ → List ℕ → List ℕ
coordinates place size zero index cs = cs
coordinates place size (suc k) index cs =
    coordinates place size k (index / size (place k)) (set cs (place k) (index % size (place k)))

-- Rule 2: the place of a view dimension is its permutation entry
unfoldable pub view_coordinates : View → List ℕ → ℕ → List ℕ
view_coordinates v sizes index =
    coordinates (λ (k : ℕ). get_or v.permutation k 0) (λ (i : ℕ). get_or sizes i 0) v.rank index (replicate rank_places 0)

-- Rule 2: the sum of coordinate i times stride i, for i from 0 up to n - 1
unfoldable pub weighted : List ℕ → List ℕ → ℕ → ℕ
weighted cs strides zero = 0
weighted cs strides (suc n) = weighted cs strides n + get_or cs n 0 * get_or strides n 0

-- Rule 2: the new index
unfoldable pub view_index : View → List ℕ → List ℕ → ℕ → ℕ
view_index v sizes strides index = weighted (view_coordinates v sizes index) strides v.rank
