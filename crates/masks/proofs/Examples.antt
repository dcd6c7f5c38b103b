-- Worked examples.
use Rattle.std.specs.Prelude.{ℕ, ◌-◌, ◌≡◌, refl, true, false, List, [], ◌∷◌, ◌++◌}
use Rattle.numbers.specs.Choice.{pick, both}
use Rattle.numbers.specs.Lists.{each}
use Rattle.outcomes.specs.declared.Outcome.{Outcome}
use Rattle.outcomes.specs.declared.Outcome.TheVariants.{Skipped, Filled, Discarded, Placed}
use Rattle.masks.specs.Masks.{bit_bytes, bit_of, packed, sum_of, mask_of, touched}
use Rattle.masks.proofs.Laws.Written.{zeros}

-- the load of strip 1: of eight elements 2 to 5 have a byte
abbrev strip : List Outcome
strip = Filled 0 ∷ Filled 0 ∷ Placed 0 ∷ Placed 1 ∷ Placed 2 ∷ Placed 3 ∷ Filled 0 ∷ Filled 0 ∷ []

abbrev strip_mask : List ℕ
strip_mask = 0x3c ∷ zeros (bit_bytes - 1) ++ (4 ∷ 0 ∷ [])

strip_mask_lem : mask_of (bit_of strip) ≡ strip_mask
unfolding mask_of bit_of packed sum_of each
strip_mask_lem = refl

-- skipped, discarded and filled elements have none; element 8 is the lowest bit of byte 1
ninth : mask_of (bit_of (Skipped ∷ Discarded ∷ Filled 7 ∷ Skipped ∷ Skipped ∷ Skipped ∷ Skipped ∷ Skipped ∷ Placed 9 ∷ [])) ≡ 0 ∷ 1 ∷ zeros (bit_bytes - 2) ++ (1 ∷ 0 ∷ [])
unfolding mask_of bit_of packed sum_of each
ninth = refl

-- element 5 is touched, element 6 is not, and neither is any of step 1, of whose bytes there is none
fifth : touched strip_mask 0 5 ≡ true
unfolding touched both pick each
fifth = refl

sixth : touched strip_mask 0 6 ≡ false
unfolding touched both pick each
sixth = refl

next_step : touched strip_mask 1 2 ≡ false
unfolding touched both pick each
next_step = refl
