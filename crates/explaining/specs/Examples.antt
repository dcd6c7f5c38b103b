-- Worked examples: the layout of strips 1 to 6, and one that is left on two sides.
use Rattle.std.specs.Prelude.{ℕ, ◌≡◌, refl, List, [], ◌∷◌}
use Rattle.numbers.specs.Choice.{pick, both}
use Rattle.outcomes.specs.declared.Outside.TheVariants.{Nowhere, Below, Above}
use Rattle.sheet.specs.declared.ClampMode.TheVariants.{ClampToEdge}
use Rattle.sheet.specs.declared.Dimension.{Dimension}
use Rattle.sheet.specs.declared.Layout.{Layout}
use Rattle.kinds.specs.Widths.{width}
use Rattle.kinds.specs.Values.{value, taken, negative}
use Rattle.clamps.specs.Clamps.{side_of}
use Rattle.clamps.specs.Sides.{outside_from, first_outside}

-- 4 places, reached through an offset: 65,534 is -2, 65,535 is -1
abbrev dimension : ℕ → Dimension
dimension offset = record { block = 1; size = 4; stride = 1; offset = offset; span = 8 }

abbrev layout : ℕ → List Dimension → Layout
layout rank dimensions = record { rank = rank; mode = ClampToEdge; clamp = 0; dimensions = dimensions }

-- element 1 of strip 1 is at -1, element 2 at 0, element 5 at 3 and element 6 at 4
minus_one : first_outside (layout 1 (dimension 65534 ∷ [])) (1 ∷ []) ≡ Below 0
unfolding first_outside outside_from side_of pick both width value taken negative
minus_one = refl

at_zero : first_outside (layout 1 (dimension 65534 ∷ [])) (2 ∷ []) ≡ Nowhere
unfolding first_outside outside_from side_of pick both width value taken negative
at_zero = refl

last_place : first_outside (layout 1 (dimension 65534 ∷ [])) (5 ∷ []) ≡ Nowhere
unfolding first_outside outside_from side_of pick both width value taken negative
last_place = refl

at_the_size : first_outside (layout 1 (dimension 65534 ∷ [])) (6 ∷ []) ≡ Above 0
unfolding first_outside outside_from side_of pick both width value taken negative
at_the_size = refl

-- dimension 0 is inside, 1 is above and 2 below: the first of the two is named
first_of_two : first_outside (layout 3 (dimension 0 ∷ dimension 2 ∷ dimension 65535 ∷ [])) (3 ∷ 2 ∷ 0 ∷ []) ≡ Above 1
unfolding first_outside outside_from side_of pick both width value taken negative
first_of_two = refl
