-- What is known of an element's outcome, whatever the layout and the view.
use Rattle.std.specs.Prelude.{ℕ, ◌+◌, ◌*◌, ◌≤◌, ◌≡◌, true, false}
use Rattle.outcomes.specs.declared.Outcome.{Outcome}
use Rattle.outcomes.specs.declared.Outcome.TheVariants.{Skipped, Filled, Discarded, Placed}
use Rattle.addressing.specs.declared.Access.{Access}
use Rattle.addressing.specs.Rules.{low_bits}

-- only a load fills, with the low bits of the clamp value, and only a store discards;
-- an element's bytes lie in memory, a multiple of the element size from the base
abbrev pub Sound : Access → Outcome → Type 0
Sound a Skipped = Unit {0}
Sound a (Filled bits) = (a.load ≡ true) × (bits ≡ low_bits a)
Sound a Discarded = a.load ≡ false
Sound a (Placed byte) = (byte + a.size ≤ a.memory) × ((t : ℕ) × (byte ≡ a.base + t * a.size))
