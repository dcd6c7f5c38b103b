-- Types within Sizes: a bound that contracts cite.
use Rattle.std.specs.Prelude.{◌≡◌, true, List, ℕ, ◌<◌, ◌≤◌}
use Rattle.kinds.specs.Widths.{kind_ok}
use Rattle.sheet.specs.Sizes.{side_places}
use Rattle.registers.specs.Types.{no_type, the_type}
use Rattle.registers.specs.declared.MatrixType.{MatrixType}

-- a kind and sides that a register has places for, or none
pub record SizedType (t : MatrixType) : Type 0 where
  pub kind : kind_ok t.kind ≡ true
  pub rows : t.rows ≤ side_places
  pub columns : t.columns ≤ side_places
  pub some : 0 < t.rows → 0 < t.columns
  pub none : t.rows ≡ 0 → t ≡ no_type

pub record Sized (ts : List MatrixType) : Type 0 where
  pub each : (r : ℕ) → SizedType (the_type ts r)
