-- A test of every number below a bound, as a loop makes it.
use Rattle.std.specs.Prelude.{ℕ, zero, suc, Bool, true}
use Rattle.numbers.specs.Choice.{both}

-- f k is true for each k below n
unfoldable pub all : ℕ → (ℕ → Bool) → Bool
all zero f = true
all (suc n) f = both (all n f) (f n)
