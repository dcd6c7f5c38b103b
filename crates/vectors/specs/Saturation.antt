-- Arithmetic input conversion saturates: it gives the nearest value of a kind.
use Rattle.std.specs.Prelude.{ℕ, ◌-◌, ◌/◌, ◌^◌, ℤ, pos}
use Rattle.std.proofs.Math.IntN.{sub_ℕ}
use Rattle.std.specs.Int.Signed.{le_z}
use Rattle.numbers.specs.Choice.{pick}
use Rattle.kinds.specs.Widths.{width}
use Rattle.kinds.specs.Values.{signed}

-- how far the values of a kind go below zero, and above it: they are 2 to the width in all
unfoldable pub below : ℕ → ℕ
below kind = pick (signed kind) (2 ^ width kind / 2) 0

unfoldable pub above : ℕ → ℕ
above kind = 2 ^ width kind - 1 - below kind

abbrev pub lowest : ℕ → ℤ
lowest kind = sub_ℕ 0 (below kind)

abbrev pub highest : ℕ → ℤ
highest kind = pos (above kind)

-- an integer in the kind's range stays, one below it becomes the lowest value, one above it the highest
unfoldable pub saturated : ℕ → ℤ → ℤ
saturated kind z = pick (le_z (lowest kind) z) (pick (le_z z (highest kind)) z (highest kind)) (lowest kind)
