-- Elements without a view, row by row of the last dimension, as the code goes over them.
use Rattle.std.specs.Prelude.{ℕ, zero, suc, ◌+◌, ◌-◌, ◌*◌, ◌/◌, ◌%◌, ◌<◌, ◌≤◌, ◌≡◌, Bool}
use Rattle.tensor_ranges.specs.Layouts.{the_dimension}
use Rattle.sheet.specs.Sizes.{size_limit}
use Rattle.sheet.specs.declared.ClampMode.{ClampMode}
use Rattle.sheet.specs.declared.Dimension.{Dimension}
use Rattle.sheet.specs.declared.Layout.{Layout}
use Rattle.view_indices.specs.Indices.{span_of}
use Rattle.clamps.specs.Clamps.{coordinate_of, clamped, outside}
use Rattle.clamps.specs.declared.Clamped.{Clamped}
use Rattle.clamps.specs.declared.Clamped.TheVariants.{At}
use Rattle.addressing.specs.declared.Access.{Access}
use Rattle.addressing.specs.declared.rows.Inner.{Inner}
use Rattle.addressing.specs.declared.Located.{Located}
use Rattle.addressing.specs.Rules.{part, plus, settled}

-- Rules 3 to 5 in the first n dimensions, where rule 3 leaves them this index
unfoldable pub up_to : Bool → Layout → ℕ → ℕ → Clamped
up_to load l zero index = At 0
up_to load l (suc n) index =
    plus (up_to load l n (index / span_of l n)) (part load l.mode (the_dimension l.dimensions n) (index % span_of l n))

abbrev pub last_of : Layout → Dimension
last_of l = the_dimension l.dimensions (l.rank - 1)

-- the element at span coordinate s of a row, by what the dimensions before the last give for the row
abbrev pub cell_of : Access → Clamped → ℕ → Located
cell_of a before s = settled a (plus before (part a.load a.layout.mode (last_of a.layout) s))

-- rule 4 takes the coordinate at span coordinate s as one outside
abbrev pub Out : Dimension → ℕ → Type 0
Out d s = (load : Bool) (mode : ClampMode) → clamped load mode (coordinate_of d s) d.size ≡ outside load mode (coordinate_of d s) d.size

-- between these span coordinates the coordinate is inside, and goes up by one; below and from the end on it is outside
pub record Inside (d : Dimension) (r : Inner) : Type 0 where
  pub starts : r.from ≤ r.to
  pub most : r.from < r.to → r.first + (r.to - r.from) ≤ size_limit
  pub each : (load : Bool) (mode : ClampMode) (i : ℕ) → r.from + i < r.to → part load mode d (r.from + i) ≡ At ((r.first + i) / d.block * d.stride)
  pub below : (s : ℕ) → s < r.from → Out d s
  pub above : (s : ℕ) → r.to ≤ s → Out d s
