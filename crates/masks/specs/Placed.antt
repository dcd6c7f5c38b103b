-- What the theorems of masks speak of: the elements of a step that have a byte, how many there are, and the count in a mask.
use Rattle.std.specs.Prelude.{ℕ, ◌+◌, Bool, true, false, List, [], ◌∷◌}
use Rattle.numbers.specs.Little.{u16_at}
use Rattle.outcomes.specs.declared.Outcome.{Outcome}
use Rattle.outcomes.specs.declared.Outcome.TheVariants.{Skipped, Filled, Discarded, Placed}
use Rattle.accesses.specs.Refusals.{placed_one}
use Rattle.masks.specs.Masks.{bit_bytes, mask_place}

abbrev pub has_byte : Outcome → Bool
has_byte Skipped = false
has_byte (Filled bits) = false
has_byte Discarded = false
has_byte (Placed byte) = true

-- how many of a step's outcomes are placed
unfoldable pub placed_in : List Outcome → ℕ
placed_in [] = 0
placed_in (o ∷ os) = placed_one o + placed_in os

-- a step's number of set bits, as its mask has it
abbrev pub count_at : List ℕ → ℕ → ℕ
count_at masks step = u16_at masks (mask_place step + bit_bytes)
