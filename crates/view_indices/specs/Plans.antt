-- What the code finds out once for all elements of an access: rule 2's sizes and strides.
use Rattle.std.specs.Prelude.{ℕ, Bool, List, replicate}
use Rattle.numbers.specs.Choice.{pick}
use Rattle.sheet.specs.declared.Layout.{Layout}
use Rattle.sheet.specs.declared.View.{View}
use Rattle.sheet.specs.Sizes.{rank_places}
use Rattle.view_indices.specs.Indices.{view_sizes, view_strides}

-- rule 2's sizes and strides: zeros without a view
unfoldable pub sizes_of : Bool → Layout → View → List ℕ
sizes_of viewed l v = pick viewed (view_sizes l v) (replicate rank_places 0)

unfoldable pub strides_of : Bool → Layout → View → List ℕ
strides_of viewed l v = pick viewed (view_strides l v) (replicate rank_places 0)
