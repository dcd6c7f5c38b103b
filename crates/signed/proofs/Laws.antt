-- 32 bits in the machine, read as a signed number.
use Prim.Native.Nat.{ℕ, ◌<◌, ◌^◌}
use mathlib.Core.Path.{◌≡◌}
use native.Mathlib.Omega.{arith}
use mir.Syntax.{w32}
use mir.Val.{to_z}
use Rattle.std.proofs.lemmas.Int.{ints}
use Rattle.numbers.specs.Laws.Choice.{by_order}
use Rattle.signed.specs.Numbers.{signed_of}
use Rattle.signed.specs.Laws.Numbers.{lower, upper}

pub cast_signed_of : (v : ℕ) → v < 2 ^ 32 → to_z w32 v ≡ signed_of v
cast_signed_of v f = by_order v (2 ^ 31) (λ h. rw (lower v h) (grind (arith, ints))) (λ h. rw (upper v f h) (grind (arith, ints)))
