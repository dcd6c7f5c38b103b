-- The search of refusal 15: the first element that has an earlier one's byte.
use Rattle.std.specs.Prelude.{ℕ, zero, suc, Bool, true, false, not}
use Rattle.numbers.specs.Choice.{pick}
use Rattle.numbers.specs.All.{all}

-- one of the first j elements has the byte of element i; `same` says which two have the same byte
unfoldable pub meets : (ℕ → ℕ → Bool) → ℕ → ℕ → Bool
meets same i zero = false
meets same i (suc j) = pick (same j i) true (meets same i j)

-- the first element from i on, of m, that has an earlier one's byte; i + m where none has
unfoldable pub clash_from : (ℕ → ℕ → Bool) → ℕ → ℕ → ℕ
clash_from same i zero = i
clash_from same i (suc m) = pick (meets same i i) i (clash_from same (suc i) m)

-- none of m elements has an earlier one's byte
unfoldable pub apart : (ℕ → ℕ → Bool) → ℕ → Bool
apart same m = all m (λ (k : ℕ). not (meets same k k))
