-- All elements of a load or a store, one after the other.
use Rattle.std.specs.Prelude.{ℕ, zero, suc}
use Rattle.outcomes.specs.declared.Outcome.{Outcome}
use Rattle.addressing.specs.declared.Access.{Access}
use Rattle.addressing.specs.Rules.{elements_of}
use Rattle.accesses.specs.Refusals.{element_outcome}
use Rattle.transfers.specs.Acts.{State, loaded, stored}

-- elements 0 to n - 1, each acting by its outcome on what the one before left
unfoldable pub transferred : (ℕ → Outcome → State → State) → (ℕ → Outcome) → ℕ → State → State
transferred act outcome zero s = s
transferred act outcome (suc n) s = act n (outcome n) (transferred act outcome n s)

-- the outcome of element k
abbrev pub outcome_of : Access → ℕ → Outcome
outcome_of a k = (element_outcome a k).outcome

-- the elements of a register, loaded and stored
abbrev pub loaded_elements : Access → ℕ → State → State
loaded_elements a register s = transferred (loaded a.size register) (outcome_of a) (elements_of a) s

abbrev pub stored_elements : Access → ℕ → State → State
stored_elements a register s = transferred (stored a.size register) (outcome_of a) (elements_of a) s
