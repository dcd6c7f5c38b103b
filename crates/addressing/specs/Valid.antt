-- What an access must keep to for its elements to be looked at.
use Rattle.std.specs.Prelude.{ℕ, ◌*◌, ◌^◌, ◌<◌, ◌≤◌, ◌≡◌, true, false, get_or}
use Rattle.tensor_ranges.specs.Layouts.{layout_ok}
use Rattle.tensor_ranges.specs.Views.{view_ok}
use Rattle.addressing.specs.declared.Access.{Access}
use Rattle.addressing.specs.declared.Plan.{Plan}
use Rattle.clamps.specs.declared.Clamped.{Clamped}
use Rattle.clamps.specs.declared.Clamped.TheVariants.{Refused, Discarded, Filled, At}
use Rattle.sheet.specs.Sizes.{matrix_places, memory_limit, size_limit}
use Rattle.addressing.specs.Rules.{elements_of}
use Rattle.dimensions.specs.Dimensions.{lead, part_limit}
use Rattle.addressing.specs.Plans.{planned}

-- the layout, the view and the memory keep to Sizes, an element is 1, 2 or 4 bytes, and the matrix has columns and at most a register's elements
pub record SizedAccess (a : Access) : Type 0 where
  pub layout : layout_ok a.layout ≡ true
  pub view : a.viewed ≡ true → view_ok a.view ≡ true
  pub some : 0 < a.size
  pub most : a.size ≤ 4
  pub odd : a.size ≡ 3 → ⊥
  pub memory : a.memory ≤ memory_limit
  pub wide : 0 < a.columns
  pub area : elements_of a ≤ matrix_places

-- besides, a view without dimensions has the layout's dimension count (no refusal 10)
pub record ValidAccess (a : Access) : Type 0 where
  pub sized : SizedAccess a
  pub ranks : a.viewed ≡ true → a.view.sized ≡ false → a.view.rank ≡ a.layout.rank

-- a plan is what its access makes; a stride is a 16-bit number, or a product of at most four spans; each fixed dimension adds at most 4,096 times 65,536
pub record Planned (p : Plan) : Type 0 where
  pub valid : ValidAccess p.access
  pub same : p ≡ planned p.access
  pub few : p.count ≤ matrix_places
  pub strides : (i : ℕ) → get_or p.strides i 0 ≤ size_limit ^ 4
  pub start : p.tail.start ≤ lead p.access.layout * part_limit

-- what rule 5 gives is at most n, where it gives an index
abbrev pub AtMost : ℕ → Clamped → Type 0
AtMost n Refused = Unit {0}
AtMost n Discarded = Unit {0}
AtMost n Filled = Unit {0}
AtMost n (At x) = x ≤ n
