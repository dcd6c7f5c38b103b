-- A store's elements: in the row order they are all of them, and two that share no byte may change places.
use Prim.Native.Nat.{ℕ, zero, suc, ◌+◌, ◌<◌}
use Rattle.std.specs.Prelude.{◌≡◌}
use Rattle.std.proofs.Math.Path.{refl, ap}
use Rattle.std.proofs.Common.{sym, ◌∙◌, arith}
use mathlib.Core.List.{List, foldl, foldl-append, is_set}
use Rattle.std.proofs.Math.Nat.{ℕ_set}
use Rattle.numbers.specs.Lists.{each}
use Rattle.outcomes.specs.declared.Outcome.{Outcome}
use Rattle.outcomes.specs.declared.Outcome.TheVariants.{Skipped, Filled, Discarded, Placed}
use Rattle.memory.proofs.Laws.Elements.{withs_apart}
use Rattle.registers.specs.Registers.{element_of}
use Rattle.counts.specs.Counts.{one_placed}
use Rattle.transfers.specs.Acts.{State, state, stored, Occupies}
use Rattle.transfers.specs.Transfers.{transferred}
use Rattle.orders.specs.Orders.{if_placed, placed_of}

-- two ways of being equal are one for what elements move between
pub state_set : IsSet State
state_set s t p q =
    λ i j.
    record {
      elements = is_set ℕ_set s.elements t.elements (λ k. (p k).elements) (λ k. (q k).elements) i j;
      memory = is_set ℕ_set s.memory t.memory (λ k. (p k).memory) (λ k. (q k).memory) i j;
      counts = record { placed = ℕ_set s.counts.placed t.counts.placed (λ k. (p k).counts.placed) (λ k. (q k).counts.placed) i j };
    }

-- an element without a byte does nothing, so the placed ones in the row order are all
module _ (size register : ℕ) (outcome : ℕ → Outcome) where
  abbrev act : State → ℕ → State
  act s k = stored size register k (outcome k) s

  one_stored : (k : ℕ) (o : Outcome) → outcome k ≡ o → (s : State) → foldl act s (if_placed o k) ≡ stored size register k o s
  one_stored k Skipped e s = refl
  one_stored k (Filled bits) e s = refl
  one_stored k Discarded e s = refl
  one_stored k (Placed byte) e s = rw e refl

  pub row_order : (n : ℕ) (s : State) → foldl act s (placed_of outcome n) ≡ transferred (stored size register) outcome n s
  unfolding each transferred
  row_order zero s = refl
  row_order (suc n) s =
      foldl-append act s (placed_of outcome n) (if_placed (outcome n) n)
      ∙ one_stored n (outcome n) refl (foldl act s (placed_of outcome n))
      ∙ ap (stored size register n (outcome n)) (row_order n s)

-- two elements that share no byte may be stored in either order
pub stored_apart : (p q r t i j : ℕ) (x y : Outcome) → ((b : ℕ) → Occupies p b x → Occupies q b y → ⊥) → (s : State)
    → stored p r i x (stored q t j y s) ≡ stored q t j y (stored p r i x s)
stored_apart p q r t i j Skipped y h s = refl
stored_apart p q r t i j (Filled bits) y h s = refl
stored_apart p q r t i j Discarded y h s = refl
stored_apart p q r t i j (Placed x) Skipped h s = refl
stored_apart p q r t i j (Placed x) (Filled bits) h s = refl
stored_apart p q r t i j (Placed x) Discarded h s = refl
stored_apart p q r t i j (Placed x) (Placed y) h s =
    ap (λ (memory : List ℕ). state s.elements memory (one_placed (one_placed s.counts)))
    (withs_apart s.memory y q (element_of s.elements t j) x p (element_of s.elements r i)
    (λ k l m n e. h (y + k) (omega arith, omega arith) (omega arith, omega arith)))

-- an act that may change places with each of n elements may come before or after all of them
past_elements : (before : State → State) (act : ℕ → Outcome → State → State) (outcome : ℕ → Outcome) (n : ℕ)
    → ((k : ℕ) → k < n → (s : State) → before (act k (outcome k) s) ≡ act k (outcome k) (before s)) → (s : State)
    → before (transferred act outcome n s) ≡ transferred act outcome n (before s)
unfolding transferred
past_elements before act outcome zero h s = refl
past_elements before act outcome (suc n) h s =
    h n (omega arith) (transferred act outcome n s)
    ∙ ap (act n (outcome n)) (past_elements before act outcome n (λ k l. h k (omega arith)) s)

-- so the elements of two stores that share no byte may change places, all of one with all of the other
pub stores_apart : (p q r t n m : ℕ) (f g : ℕ → Outcome) → ((i j b : ℕ) → i < n → j < m → Occupies p b (f i) → Occupies q b (g j) → ⊥) → (s : State)
    → transferred (stored p r) f n (transferred (stored q t) g m s) ≡ transferred (stored q t) g m (transferred (stored p r) f n s)
stores_apart p q r t n m f g h =
    past_elements (transferred (stored p r) f n) (stored q t) g m
    (λ j l s.
    sym
    (past_elements (stored q t j (g j)) (stored p r) f n
    (λ i k. stored_apart q p t r j i (g j) (f i) (λ b x y. h i j b k l y x)) s))
