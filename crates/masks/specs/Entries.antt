-- Masks as the code makes them: the bits of a load's or a store's of the entries of its survey, and those of other steps empty.
use Rattle.std.specs.Prelude.{ℕ, List, [], ltb, get_or}
use Rattle.numbers.specs.Choice.{pick}
use Rattle.accesses.specs.Refusals.{placed_one}
use Rattle.accesses.specs.Entries.{entry_outcome}
use Rattle.masks.specs.Masks.{masks_of}

-- 1 for an entry of an element with a byte; what filled elements take does not matter
abbrev pub entry_one : ℕ → ℕ
entry_one entry = placed_one (entry_outcome 0 entry)

-- of n elements with these entries; past them there is none
unfoldable pub entry_bit : List ℕ → ℕ → ℕ → ℕ
entry_bit entries n e = pick (ltb e n) (entry_one (get_or entries e 0)) 0

-- n empty masks: of steps without outcomes
abbrev pub empty_masks : ℕ → List ℕ
empty_masks n = masks_of (λ (s : ℕ). []) n
