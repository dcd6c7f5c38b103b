-- What the elements of a load or a store leave as it was, and what they count.
use Rattle.std.specs.Prelude.{◌≡◌, length, get_or}
use Rattle.std.proofs.Math.Path.{refl}
use Rattle.std.proofs.Common.{sym, ◌∙◌, arith, length-set}
use Prim.Native.Nat.{ℕ, zero, suc, ◌+◌, ◌<◌, ◌≤◌}
use Rattle.outcomes.specs.declared.Outcome.{Outcome}
use Rattle.outcomes.specs.declared.Outcome.TheVariants.{Skipped, Filled, Discarded, Placed}
use Rattle.registers.specs.Registers.{place_of, element_of}
use Rattle.memory.specs.Elements.{element_at}
use Rattle.memory.proofs.Laws.Elements.{with_outside}
use Rattle.addressing.specs.declared.Located.{Located}
use Rattle.accesses.specs.Refusals.{placed_one, placed_count}
use Rattle.counts.specs.Counts.{more_placed}
use Rattle.counts.specs.Laws.Counts.{placed_none, placed_more}
use Rattle.transfers.specs.Acts.{State, loaded, stored, Occupies}
use Rattle.transfers.specs.Transfers.{transferred}

-- what no element changes, all of them leave
pub transferred_keeps : {A : Type 0} (what : State → A) (act : ℕ → Outcome → State → State) → ((k : ℕ) (o : Outcome) (s : State) → what (act k o s) ≡ what s)
    → (outcome : ℕ → Outcome) (n : ℕ) (s : State) → what (transferred act outcome n s) ≡ what s
unfolding transferred
transferred_keeps what act h outcome zero s = refl
transferred_keeps what act h outcome (suc n) s =
    h n (outcome n) (transferred act outcome n s) ∙ transferred_keeps what act h outcome n s

-- where each element with a byte counts one, all count as many as have a byte
pub transferred_counts : (act : ℕ → Outcome → State → State) → ((k : ℕ) (o : Outcome) (s : State) → (act k o s).counts ≡ more_placed s.counts (placed_one o))
    → (f : ℕ → Located) (n : ℕ) (s : State) → (transferred act (λ (k : ℕ). (f k).outcome) n s).counts ≡ more_placed s.counts (placed_count f n)
unfolding transferred placed_count
transferred_counts act h f zero s = sym (placed_none s.counts)
transferred_counts act h f (suc n) s =
    h n (f n).outcome (transferred act (λ (k : ℕ). (f k).outcome) n s)
    ∙ rw (transferred_counts act h f n s) (placed_more s.counts (placed_count f n) (placed_one (f n).outcome))

module _ (size register : ℕ) where
  -- an element of a load keeps the number of places of the registers
  pub loaded_places : (k : ℕ) (o : Outcome) (s : State) → length (loaded size register k o s).elements ≡ length s.elements
  loaded_places k Skipped s = refl
  loaded_places k (Filled bits) s = length-set s.elements (place_of register k) bits
  loaded_places k Discarded s = refl
  loaded_places k (Placed byte) s = length-set s.elements (place_of register k) (element_at s.memory byte size)

  -- an element counts one if it has a byte
  pub loaded_counts : (k : ℕ) (o : Outcome) (s : State) → (loaded size register k o s).counts ≡ more_placed s.counts (placed_one o)
  loaded_counts k Skipped s = sym (placed_none s.counts)
  loaded_counts k (Filled bits) s = sym (placed_none s.counts)
  loaded_counts k Discarded s = sym (placed_none s.counts)
  loaded_counts k (Placed byte) s = refl

  pub stored_counts : (k : ℕ) (o : Outcome) (s : State) → (stored size register k o s).counts ≡ more_placed s.counts (placed_one o)
  stored_counts k Skipped s = sym (placed_none s.counts)
  stored_counts k (Filled bits) s = sym (placed_none s.counts)
  stored_counts k Discarded s = sym (placed_none s.counts)
  stored_counts k (Placed byte) s = refl

pub has_placed : (size b : ℕ) (o : Outcome) → Occupies size b o → (byte : ℕ) × ((o ≡ Placed byte) × ((byte ≤ b) × (b < byte + size)))
has_placed size b Skipped h = absurd h
has_placed size b (Filled bits) h = absurd h
has_placed size b Discarded h = absurd h
has_placed size b (Placed byte) h = (byte, (refl, h))

-- a byte that no element has is unchanged by a store
module _ (size register b : ℕ) where
  stored_outside : (k : ℕ) (o : Outcome) (s : State) → (Occupies size b o → ⊥) → get_or (stored size register k o s).memory b 0 ≡ get_or s.memory b 0
  stored_outside k Skipped s h = refl
  stored_outside k (Filled bits) s h = refl
  stored_outside k Discarded s h = refl
  stored_outside k (Placed byte) s h =
      with_outside s.memory byte size (element_of s.elements register k) b (λ i l e. h (omega arith, omega arith))

  pub stores_outside : (outcome : ℕ → Outcome) (n : ℕ) (s : State) → ((k : ℕ) → k < n → Occupies size b (outcome k) → ⊥)
      → get_or (transferred (stored size register) outcome n s).memory b 0 ≡ get_or s.memory b 0
  unfolding transferred
  stores_outside outcome zero s h = refl
  stores_outside outcome (suc n) s h =
      stored_outside n (outcome n) (transferred (stored size register) outcome n s) (h n (omega arith))
      ∙ stores_outside outcome n s (λ k l. h k (omega arith))
