-- The first number at which a test is true, as a loop finds it.
use Rattle.std.specs.Prelude.{ℕ, zero, suc, Bool}
use Rattle.numbers.specs.Choice.{pick}

-- of the m numbers from k on; k + m where there is none
unfoldable pub first_from : (ℕ → Bool) → ℕ → ℕ → ℕ
first_from test k zero = k
first_from test k (suc m) = pick (test k) k (first_from test (suc k) m)
