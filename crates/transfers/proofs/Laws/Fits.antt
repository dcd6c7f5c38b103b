-- Elements fit after each act and after all elements of a load or a store, and memory stays bytes.
use Rattle.std.specs.Prelude.{◌≡◌, refl, List, ℕ, zero, suc, ◌*◌, ◌^◌, ◌<◌, ◌≤◌, length}
use Rattle.std.proofs.Common.{◌∙◌, arith, length-set}
use Rattle.numbers.specs.Bytes.{AreBytes}
use Rattle.numbers.specs.Laws.Bytes.{byte_at}
use Rattle.kinds.specs.Widths.{width, bytes_of}
use Rattle.kinds.specs.Laws.Widths.{width_bytes}
use Rattle.sheet.specs.Sizes.{register_count, element_places}
use Rattle.outcomes.specs.declared.Outcome.{Outcome}
use Rattle.outcomes.specs.declared.Outcome.TheVariants.{Skipped, Filled, Discarded, Placed}
use Rattle.memory.specs.Elements.{element_at}
use Rattle.memory.proofs.Laws.Elements.{element_lt, with_bytes}
use Rattle.registers.specs.Types.{the_type}
use Rattle.registers.specs.Registers.{place_of}
use Rattle.registers.specs.Sized.{Sized}
use Rattle.registers.specs.Laws.Sized.{sized_places}
use Rattle.registers.specs.Fits.{Fit}
use Rattle.registers.specs.Past.{Past}
use Rattle.registers.specs.Laws.Past.{past_put}
use Rattle.registers.specs.Laws.Fits.{fit_put}
use Rattle.registers.specs.declared.MatrixType.{MatrixType}
use Rattle.addressing.specs.declared.Access.{Access}
use Rattle.addressing.specs.Rules.{elements_of}
use Rattle.accesses.proofs.Laws.Accepted.{filled_fits}
use Rattle.transfers.specs.Acts.{State, took, gave, put, loaded, stored}
use Rattle.transfers.specs.Transfers.{transferred, outcome_of, loaded_elements, stored_elements}

-- elements of registers of types that fit, each with a place, and memory of bytes
pub record Fits (ts : List MatrixType) (s : State) : Type 0 where
  pub places : length s.elements ≡ element_places
  pub fit : Fit ts s.elements
  pub bytes : AreBytes s.memory

-- an element of a register's matrix is given bits of its kind, or takes those at a byte
module _ (ts : List MatrixType) (z : Sized ts) (register element : ℕ) (r : register < register_count) (l : element < (the_type ts register).rows * (the_type ts register).columns) (s : State) (f : Fits ts s) where
  abbrev kind : ℕ
  kind = (the_type ts register).kind

  pub gave_fits : (bits : ℕ) → bits < 2 ^ width kind → Fits ts (gave register element bits s)
  gave_fits bits h =
      record {
        places = length-set s.elements (place_of register element) bits ∙ f.places;
        fit = fit_put ts s.elements register element bits z (omega (arith, sized_places (the_type ts register) (z.each register), f.places)) l h f.fit;
        bytes = f.bytes;
      }

  pub took_fits : (byte : ℕ) → Fits ts (took (bytes_of kind) register element byte s)
  took_fits byte =
      let bits = element_at s.memory byte (bytes_of kind) in
      let g = gave_fits bits (rw (← width_bytes kind) (element_lt s.memory byte (bytes_of kind) (byte_at s.memory f.bytes))) in
      record { places = g.places; fit = g.fit; bytes = g.bytes }

-- an element is put into memory
pub put_fits : (ts : List MatrixType) (size register element byte : ℕ) (s : State) → Fits ts s → Fits ts (put size register element byte s)
put_fits ts size register element byte s f =
    record { places = f.places; fit = f.fit; bytes = with_bytes s.memory byte size _ f.bytes }

-- what holds before the elements, and after each, holds after all
transferred_holds : (P : State → Type 0) (act : ℕ → Outcome → State → State) (outcome : ℕ → Outcome) (n : ℕ)
    → ((k : ℕ) → k < n → (s : State) → P s → P (act k (outcome k) s)) → (s : State) → P s → P (transferred act outcome n s)
unfolding transferred
transferred_holds P act outcome zero h s q = q
transferred_holds P act outcome (suc n) h s q =
    h n (omega arith) (transferred act outcome n s) (transferred_holds P act outcome n (λ k l. h k (omega arith)) s q)

module _ (ts : List MatrixType) where
  loaded_fits : Sized ts → (size register k : ℕ) → size ≡ bytes_of (the_type ts register).kind → register < register_count
      → k < (the_type ts register).rows * (the_type ts register).columns → (o : Outcome) → ((bits : ℕ) → o ≡ Filled bits → bits < 2 ^ (8 * size))
      → (s : State) → Fits ts s → Fits ts (loaded size register k o s)
  loaded_fits z size register k e r l Skipped h s f = f
  loaded_fits z size register k e r l (Filled bits) h s f =
      gave_fits ts z register k r l s f bits (rw (← width_bytes (the_type ts register).kind, ← e) (h bits refl))
  loaded_fits z size register k e r l Discarded h s f = f
  loaded_fits z size register k e r l (Placed byte) h s f = rw e (took_fits ts z register k r l s f byte)

  stored_fits : (size register k : ℕ) (o : Outcome) (s : State) → Fits ts s → Fits ts (stored size register k o s)
  stored_fits size register k Skipped s f = f
  stored_fits size register k (Filled bits) s f = f
  stored_fits size register k Discarded s f = f
  stored_fits size register k (Placed byte) s f = put_fits ts size register k byte s f

  -- the elements of a load of a register's matrix
  pub load_fits : Sized ts → (a : Access) (register : ℕ) → register < register_count → a.size ≡ bytes_of (the_type ts register).kind
      → elements_of a ≤ (the_type ts register).rows * (the_type ts register).columns → (s : State) → Fits ts s → Fits ts (loaded_elements a register s)
  load_fits z a register r e n s f =
      transferred_holds (Fits ts) (loaded a.size register) (outcome_of a) (elements_of a)
      (λ k l s q. loaded_fits z a.size register k e r (omega arith) (outcome_of a k) (λ bits o. filled_fits a k o) s q) s f

  loaded_past : Sized ts → (size register k : ℕ) → k < (the_type ts register).rows * (the_type ts register).columns → (o : Outcome) (s : State) → Past ts s.elements
      → Past ts (loaded size register k o s).elements
  loaded_past z size register k l Skipped s w = w
  loaded_past z size register k l (Filled bits) s w = past_put ts s.elements register k bits z l w
  loaded_past z size register k l Discarded s w = w
  loaded_past z size register k l (Placed byte) s w = past_put ts s.elements register k _ z l w

  -- they leave the places past the matrix
  pub load_past : Sized ts → (a : Access) (register : ℕ) → elements_of a ≤ (the_type ts register).rows * (the_type ts register).columns → (s : State)
      → Past ts s.elements → Past ts (loaded_elements a register s).elements
  load_past z a register n s w =
      transferred_holds (λ (s : State). Past ts s.elements) (loaded a.size register) (outcome_of a) (elements_of a)
      (λ k l s q. loaded_past z a.size register k (omega arith) (outcome_of a k) s q) s w

  -- and of a store
  pub store_fits : (a : Access) (register : ℕ) (s : State) → Fits ts s → Fits ts (stored_elements a register s)
  store_fits a register s f =
      transferred_holds (Fits ts) (stored a.size register) (outcome_of a) (elements_of a)
      (λ k l s q. stored_fits a.size register k (outcome_of a k) s q) s f
