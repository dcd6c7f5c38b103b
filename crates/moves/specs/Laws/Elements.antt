-- The elements of a take, a put and a fill, one after the other.
use Prim.Native.Nat.{ℕ, zero, suc, ◌+◌, ◌≤◌}
use Rattle.std.specs.Prelude.{◌≡◌, List}
use Rattle.std.proofs.Math.Path.{refl}
use Rattle.std.proofs.Common.{sym, ap, ◌∙◌}
use Rattle.std.proofs.Math.Numerals.{add-one}
use native.Mathlib.Omega.{arith}
use Rattle.numbers.specs.Lists.{line}
use Rattle.numbers.specs.Orders.{in_order}
use Rattle.memory.specs.Elements.{element_at, with_element}
use Rattle.registers.specs.Registers.{place_of, element_of, with_element_of, filled_elements}
use Rattle.counts.specs.Counts.{more_placed}
use Rattle.counts.specs.Laws.Counts.{placed_none}
use Rattle.counts.specs.declared.Counts.{Counts}
use Rattle.transfers.specs.Acts.{State, state}
use Rattle.transfers.proofs.Laws.Elements.{took_counted, put_counted}
use Rattle.judging.specs.Records.{byte_at}
use Rattle.moves.specs.Elements.{taking, putting, filling}

module _ (act : ℕ → State → State) where
  pub order_more : (n : ℕ) (s : State) → in_order act (n + 1) s ≡ act n (in_order act n s)
  unfolding in_order
  order_more n s = rw add-one

  pub order_keeps : {A : Type 0} (f : State → A) → ((i : ℕ) (s : State) → f (act i s) ≡ f s) → (n : ℕ) (s : State) → f (in_order act n s) ≡ f s
  unfolding in_order
  order_keeps f h zero s = refl
  order_keeps f h (suc n) s = h n (in_order act n s) ∙ order_keeps f h n s

  pub order_counts : ((i : ℕ) (s : State) → (act i s).counts.placed ≤ s.counts.placed + 1) → (n : ℕ) (s : State) → (in_order act n s).counts.placed ≤ s.counts.placed + n
  unfolding in_order
  order_counts h zero s = omega arith
  order_counts h (suc n) s = omega (arith, h n (in_order act n s), order_counts h n s)

  order_turn : (i : ℕ) (s : State) {t u : State} → t ≡ in_order act i s → u ≡ act i t → u ≡ in_order act (i + 1) s
  order_turn i s p q = q ∙ ap (act i) p ∙ sym (order_more i s)

  pub order_start : (es m : List ℕ) (c : Counts) → state es m (more_placed c 0) ≡ in_order act 0 (state es m c)
  unfolding in_order
  order_start es m c = rw (placed_none c)

-- one turn of the loop over the elements of a take and of a put
module _ (register first i : ℕ) where
  module _ (size byte up down : ℕ) where
    abbrev TakenSo : List ℕ → List ℕ → List ℕ → ℕ → Type 0
    TakenSo es₀ m es k = (c : Counts) → state es m (more_placed c k) ≡ in_order (taking size register first byte up down) k (state es₀ m c)

    abbrev PutSo : List ℕ → List ℕ → List ℕ → ℕ → Type 0
    PutSo es m₀ m k = (c : Counts) → state es m (more_placed c k) ≡ in_order (putting size register first byte up down) k (state es m₀ c)

    pub take_turn : (es₀ : List ℕ) {m es es' : List ℕ} {at x : ℕ} → TakenSo es₀ m es i → at ≡ byte_at byte up down i → x ≡ element_at m at size → es' ≡ with_element_of es register (first + i) x → TakenSo es₀ m es' (i + 1)
    take_turn es₀ {m = m} {es = es} inv p q r c =
        order_turn (taking size register first byte up down) i (state es₀ m c) (inv c)
        (rw (← p) (took_counted size register (first + i) _ c i es m q r))

    pub put_turn : (m₀ : List ℕ) {es m m' : List ℕ} {at x : ℕ} → PutSo es m₀ m i → at ≡ byte_at byte up down i → x ≡ element_of es register (first + i) → m' ≡ with_element m at size x → PutSo es m₀ m' (i + 1)
    put_turn m₀ {es = es} {m = m} inv p q r c =
        order_turn (putting size register first byte up down) i (state es m₀ c) (inv c)
        (rw (← p) (put_counted size register (first + i) _ c i es m q r))

-- the elements of a fill, one after the other
pub fill_order : (register first value : ℕ) (es m : List ℕ) (c : Counts) (n : ℕ)
    → state (filled_elements es register first n value) m c ≡ in_order (filling register first value) n (state es m c)
unfolding line in_order
fill_order register first value es m c zero = refl
fill_order register first value es m c (suc n) =
    let at : place_of register first + n ≡ place_of register (first + n) = omega arith in
    rw at (ap (filling register first value n) (fill_order register first value es m c n))
