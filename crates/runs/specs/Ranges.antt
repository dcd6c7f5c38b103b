-- The ranges of runs and of their records.
use Rattle.std.specs.Prelude.{ℕ, ◌+◌, ◌≤◌, ◌<◌, ◌^◌, min, ◌≡◌}
use Rattle.outcomes.specs.declared.Outcome.{Outcome}
use Rattle.outcomes.specs.declared.Outcome.TheVariants.{Skipped, Filled, Discarded, Placed}
use Rattle.sheet.specs.Sizes.{memory_limit}
use Rattle.runs.specs.declared.Run.{Run}
use Rattle.runs.specs.declared.Run.TheVariants.{Idle, Bytes, Fills}

-- a byte of memory; bits of 32
abbrev pub Fitting : Outcome → Type 0
Fitting Skipped = Unit {0}
Fitting (Filled v) = v < 2 ^ 32
Fitting Discarded = Unit {0}
Fitting (Placed b) = b < memory_limit

-- a run that ends just before element k
pub record Steady (k e m b u d : ℕ) : Type 0 where
  pub ends : e + m ≡ k
  pub some : 1 ≤ m
  pub byte : b < memory_limit
  pub up : u < memory_limit
  pub down : d < memory_limit
  pub way : min u d ≡ 0

pub record Full (k e m v : ℕ) : Type 0 where
  pub ends : e + m ≡ k
  pub some : 1 ≤ m
  pub value : v < 2 ^ 32

abbrev pub SmallRun : ℕ → Run → Type 0
SmallRun k Idle = Unit {0}
SmallRun k (Bytes e m b u d) = Steady k e m b u d
SmallRun k (Fills e m v) = Full k e m v
