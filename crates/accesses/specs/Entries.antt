-- The table of the elements' outcomes, one number each: by it the code looks for refusal 15, and moves the elements.
use Rattle.std.specs.Prelude.{ℕ, ◌+◌, ◌-◌, ◌<◌, ◌≡◌, List, eqb, ltb, length, get_or}
use Rattle.numbers.specs.Choice.{pick}
use Rattle.outcomes.specs.declared.Outcome.{Outcome}
use Rattle.outcomes.specs.declared.Outcome.TheVariants.{Skipped, Filled, Discarded, Placed}
use Rattle.addressing.specs.Rules.{elements_of, low_bits}
use Rattle.addressing.specs.declared.Access.{Access}
use Rattle.addressing.specs.declared.Located.{Located}
use Rattle.sheet.specs.Sizes.{matrix_places, memory_limit}
use Rattle.clashes.specs.Entries.{filled_entry, discarded_entry}
use Rattle.accesses.specs.declared.Tally.{Tally}
use Rattle.accesses.specs.Refusals.{element_outcome, first_refused, placed_count}

-- a byte is one of the 65,536 that a memory has at most
abbrev pub Near : Outcome → Type 0
Near Skipped = Unit {0}
Near (Filled b) = Unit {0}
Near Discarded = Unit {0}
Near (Placed b) = b < memory_limit

abbrev pub entry_of : Outcome → ℕ
entry_of Skipped = 0
entry_of (Filled b) = filled_entry
entry_of Discarded = discarded_entry
entry_of (Placed b) = b + 1

-- the outcome that an entry stands for, where filled elements take these bits
unfoldable pub entry_outcome : ℕ → ℕ → Outcome
entry_outcome fill x =
    pick (eqb x 0) Skipped
    (pick (ltb x filled_entry) (Placed (x - 1))
    (pick (eqb x filled_entry) (Filled fill) Discarded))

-- the first refusal of m elements, and where there is none, how many have a byte and each one's entry; there is room for a matrix
pub record Surveyed (f : ℕ → Located) (m : ℕ) (r : Tally) (entries : List ℕ) : Type 0 where
  pub room : length entries ≡ matrix_places
  pub stop : r.stop ≡ first_refused f 0 m
  pub placed : r.stop.number ≡ 0 → r.placed ≡ placed_count f m
  pub each : r.stop.number ≡ 0 → (i : ℕ) → i < m → get_or entries i 0 ≡ entry_of (f i).outcome

-- the entries stand for the outcomes of an access's elements
abbrev pub Told : Access → List ℕ → Type 0
Told a entries = (i : ℕ) → i < elements_of a → entry_outcome (low_bits a) (get_or entries i 0) ≡ (element_outcome a i).outcome
