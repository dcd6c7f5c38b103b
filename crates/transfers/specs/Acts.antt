-- What the outcome of one element does: on a load to the registers' elements, on a store to memory.
use Rattle.std.specs.Prelude.{ℕ, ◌+◌, ◌<◌, ◌≤◌, List}
use Rattle.outcomes.specs.declared.Outcome.{Outcome}
use Rattle.outcomes.specs.declared.Outcome.TheVariants.{Skipped, Filled, Discarded, Placed}
use Rattle.memory.specs.Elements.{element_at, with_element}
use Rattle.registers.specs.Registers.{element_of, with_element_of}
use Rattle.counts.specs.Counts.{one_placed}
use Rattle.counts.specs.declared.Counts.{Counts}

-- what elements move between, and what is counted
pub record State : Type 0 where
  pub elements : List ℕ
  pub memory : List ℕ
  pub counts : Counts

abbrev pub state : List ℕ → List ℕ → Counts → State
state elements memory counts = record { elements = elements; memory = memory; counts = counts }

-- an element takes the raw bits at its byte; an element of a store is written there
abbrev pub took : ℕ → ℕ → ℕ → ℕ → State → State
took size register element byte s =
    record {
      elements = with_element_of s.elements register element (element_at s.memory byte size);
      memory = s.memory;
      counts = one_placed s.counts;
    }

abbrev pub gave : ℕ → ℕ → ℕ → State → State
gave register element bits s =
    record { elements = with_element_of s.elements register element bits; memory = s.memory; counts = s.counts }

abbrev pub put : ℕ → ℕ → ℕ → ℕ → State → State
put size register element byte s =
    record {
      elements = s.elements;
      memory = with_element s.memory byte size (element_of s.elements register element);
      counts = one_placed s.counts;
    }

-- on a load a skipped element keeps the object's, which the register holds already
abbrev pub loaded : ℕ → ℕ → ℕ → Outcome → State → State
loaded size register element Skipped s = s
loaded size register element (Filled bits) s = gave register element bits s
loaded size register element Discarded s = s
loaded size register element (Placed byte) s = took size register element byte s

abbrev pub stored : ℕ → ℕ → ℕ → Outcome → State → State
stored size register element Skipped s = s
stored size register element (Filled bits) s = s
stored size register element Discarded s = s
stored size register element (Placed byte) s = put size register element byte s

-- an element with a byte has all of its bytes in a memory of a length
abbrev pub Inside : ℕ → ℕ → Outcome → Type 0
Inside size len Skipped = Unit {0}
Inside size len (Filled bits) = Unit {0}
Inside size len Discarded = Unit {0}
Inside size len (Placed byte) = byte + size ≤ len

-- byte b is one of the size bytes of an element with an outcome
abbrev pub Occupies : ℕ → ℕ → Outcome → Type 0
Occupies size b Skipped = ⊥
Occupies size b (Filled bits) = ⊥
Occupies size b Discarded = ⊥
Occupies size b (Placed byte) = (byte ≤ b) × (b < byte + size)
