-- The ranges of a record's numbers: those that six signed 32-bit numbers can say, and that are not out of range.
use Rattle.std.specs.Prelude.{ℕ, ◌≤◌, ◌<◌, ◌^◌, min, ◌≡◌, List, [], ◌∷◌}
use Rattle.sheet.specs.Sizes.{register_count}
use Rattle.records.specs.declared.Record.{Record}
use Rattle.records.specs.declared.Record.TheVariants.{Copy, Take, Put, Fill, Whole}
use Rattle.records.specs.declared.Decoded.{Decoded}
use Rattle.records.specs.declared.Decoded.TheVariants.{Good, Bad}

-- elements of a register
pub record Elements (r f n : ℕ) : Type 0 where
  pub register : r < register_count
  pub first : f < 2 ^ 31
  pub some : 1 ≤ n
  pub count : n < 2 ^ 31

-- bytes of memory at an even step, which goes one way
pub record Bytes (b u d : ℕ) : Type 0 where
  pub byte : b < 2 ^ 31
  pub up : u ≤ 65535
  pub down : d ≤ 65535
  pub way : min u d ≡ 0

abbrev pub InRange : Record → Type 0
InRange (Copy register object) = (register < register_count) × (object < register_count)
InRange (Take register first count byte up down) = Elements register first count × Bytes byte up down
InRange (Put register first count byte up down) = Elements register first count × Bytes byte up down
InRange (Fill register first count value) = Elements register first count × (value < 2 ^ 32)
InRange (Whole step) = step < 2 ^ 31

abbrev pub GoodInRange : Decoded → Type 0
GoodInRange (Good r) = InRange r
GoodInRange Bad = Unit {0}

abbrev pub AllRecords : (Record → Type 0) → List Record → Type 0
AllRecords P [] = Unit {0}
AllRecords P (r ∷ rs) = P r × AllRecords P rs

abbrev pub AllInRange : List Record → Type 0
AllInRange rs = AllRecords InRange rs
