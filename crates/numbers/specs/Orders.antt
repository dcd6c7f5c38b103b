-- Acts one after the other, each on what the one before left.
use Rattle.std.specs.Prelude.{ℕ, zero, suc}

-- acts 0 to n - 1
unfoldable pub in_order : {S : Type 0} → (ℕ → S → S) → ℕ → S → S
in_order act zero s = s
in_order act (suc n) s = act n (in_order act n s)
