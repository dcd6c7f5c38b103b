-- What acts keep, one after the other.
use Rattle.std.specs.Prelude.{ℕ, zero, suc, ◌<◌}
use Rattle.std.proofs.Common.{arith}
use Rattle.numbers.specs.Orders.{in_order}

-- what holds before the acts, and after each, holds after all
pub in_order_keeps : {S : Type 0} (P : S → Type 0) (act : ℕ → S → S) (n : ℕ) → ((i : ℕ) → i < n → (s : S) → P s → P (act i s)) → (s : S) → P s → P (in_order act n s)
unfolding in_order
in_order_keeps P act zero h s q = q
in_order_keeps P act (suc n) h s q = h n (omega arith) (in_order act n s) (in_order_keeps P act n (λ i l. h i (omega arith)) s q)
