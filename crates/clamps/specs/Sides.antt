-- Request T-06: the first dimension, from 0 upward, in which an element is not inside.
use Rattle.std.specs.Prelude.{ℕ, zero, suc, List, get_or}
use Rattle.tensor_ranges.specs.Layouts.{the_dimension}
use Rattle.outcomes.specs.declared.Side.{Side}
use Rattle.outcomes.specs.declared.Side.TheVariants as side
use Rattle.outcomes.specs.declared.Outside.{Outside}
use Rattle.outcomes.specs.declared.Outside.TheVariants.{Nowhere, Below, Above}
use Rattle.sheet.specs.declared.Layout.{Layout}
use Rattle.clamps.specs.Clamps.{coordinate_of, side_of}

-- the side of dimension d, of an element with these span coordinates
abbrev pub side_at : Layout → List ℕ → ℕ → Side
side_at l cs d = let x = the_dimension l.dimensions d in side_of (coordinate_of x (get_or cs d 0)) x.size

-- a dimension that is not inside is named with its side; else what comes after it is
abbrev pub named : ℕ → Side → Outside → Outside
named d side.Inside later = later
named d side.Below later = Below d
named d side.Above later = Above d

-- the first of the m dimensions from d on, or none
unfoldable pub outside_from : (ℕ → Side) → ℕ → ℕ → Outside
outside_from f d zero = Nowhere
outside_from f d (suc m) = named d (f d) (outside_from f (suc d) m)

-- the first of all dimensions of a layout
unfoldable pub first_outside : Layout → List ℕ → Outside
first_outside l cs = outside_from (side_at l cs) 0 l.rank
