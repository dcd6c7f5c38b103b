-- The elements of an access row by row, as the code goes over them.
use Rattle.std.specs.Prelude.{ℕ, ◌+◌, ◌-◌, ◌*◌, ◌<◌, ◌≤◌, ◌≡◌, List, negsuc, length, get_or}
use Rattle.sheet.specs.Sizes.{matrix_places}
use Rattle.sheet.specs.declared.Dimension.{Dimension}
use Rattle.clamps.specs.Clamps.{outside}
use Rattle.clamps.specs.declared.Clamped.{Clamped}
use Rattle.clamps.specs.declared.Clamped.TheVariants.{Refused, Discarded, Filled, At}
use Rattle.clashes.specs.Entries.{filled_entry, discarded_entry}
use Rattle.addressing.specs.declared.Access.{Access}
use Rattle.addressing.specs.declared.Located.{Located}
use Rattle.addressing.specs.Rules.{elements_of, low_bits}
use Rattle.addressing.specs.Rows.{last_of, cell_of}
use Rattle.addressing.specs.Valid.{ValidAccess}
use Rattle.accesses.specs.declared.Tally.{Tally}
use Rattle.accesses.specs.Refusals.{element_outcome, first_refused, placed_count}
use Rattle.accesses.specs.Entries.{entry_of}

-- The first m elements of an access, passed up to k without a refusal
pub record Passed (f : ℕ → Located) (m k placed : ℕ) (entries : List ℕ) : Type 0 where
  pub inside : k ≤ m
  pub most : m ≤ matrix_places
  pub room : length entries ≡ matrix_places
  pub few : placed ≤ k
  pub stop : first_refused f k (m - k) ≡ first_refused f 0 m
  pub count : placed ≡ placed_count f k
  pub each : (i : ℕ) → i < k → get_or entries i 0 ≡ entry_of (f i).outcome

-- they are passed up to k, or one of them is the first refused
pub record Went (f : ℕ → Located) (m k : ℕ) (r : Tally) (entries : List ℕ) : Type 0 where
  pub room : length entries ≡ matrix_places
  pub refused : (r.stop.number ≡ 0 → ⊥) → r.stop ≡ first_refused f 0 m
  pub passed : r.stop.number ≡ 0 → Passed f m k r.placed entries

-- the n elements from k on are a row, to which the dimensions before the last give `before`
pub record Row (a : Access) (before : Clamped) (k n : ℕ) : Type 0 where
  pub inside : k + n ≤ elements_of a
  pub each : (s : ℕ) → s < n → element_outcome a (k + s) ≡ cell_of a before s

-- what all rows share
pub record Shared (a : Access) (x : Dimension) (fill : ℕ) : Type 0 where
  pub valid : ValidAccess a
  pub last : x ≡ last_of a.layout
  pub bits : fill ≡ low_bits a

-- with blocks of 1, n elements from a byte on, one step after the other, have all their bytes in memory
pub record Even (block size memory byte step n : ℕ) : Type 0 where
  pub flat : block ≡ 1
  pub some : 0 < n
  pub fits : byte + (n - 1) * step + size ≤ memory

-- the entry of every element that is outside, where all have the same and none is refused; otherwise 0
abbrev pub same_entry_of : Clamped → ℕ
same_entry_of Refused = 0
same_entry_of Discarded = discarded_entry
same_entry_of Filled = filled_entry
same_entry_of (At x) = 0

abbrev pub far_of : Access → ℕ
far_of a = same_entry_of (outside a.load a.layout.mode (negsuc 0) 1)
