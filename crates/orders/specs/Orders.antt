-- Orders of a store's placed elements, and what a card leaves that writes each store's elements in an order of its own.
use Rattle.std.specs.Prelude.{ℕ, zero, suc, ◌+◌, ◌<◌, ◌≡◌}
use mathlib.Core.List.{List, [], ◌∷◌, foldl, Perm}
use Rattle.numbers.specs.Lists.{each}
use Rattle.outcomes.specs.declared.Outcome.{Outcome}
use Rattle.outcomes.specs.declared.Outcome.TheVariants.{Skipped, Filled, Discarded, Placed}
use Rattle.sheet.specs.declared.Tensors.{Tensors}
use Rattle.sheet.specs.declared.Sheet.{Sheet}
use Rattle.sheet.specs.declared.Step.{Step}
use Rattle.sheet.specs.declared.Step.TheVariants.{Nothing, Load, Store, Whole}
use Rattle.sheet_ranges.specs.Steps.{the_step}
use Rattle.addressing.specs.Rules.{elements_of}
use Rattle.addressing.specs.declared.Access.{Access}
use Rattle.accesses.specs.Refusals.{placed_one}
use Rattle.transfers.specs.Acts.{State, stored}
use Rattle.transfers.specs.Transfers.{outcome_of}
use Rattle.carrying.specs.Steps.{Machine, state_of, machine_of, performed_step}
use Rattle.carrying.specs.Carrying.{performed_from}
use Rattle.carrying.specs.Bytes.{store_on}

-- element k of a load or a store has a byte
abbrev pub IsPlaced : Access → ℕ → Type 0
IsPlaced a k = (k < elements_of a) × (placed_one (outcome_of a k) ≡ 1)

-- element k, if its outcome has a byte
abbrev pub if_placed : Outcome → ℕ → List ℕ
if_placed Skipped k = []
if_placed (Filled bits) k = []
if_placed Discarded k = []
if_placed (Placed byte) k = k ∷ []

-- the placed ones of n elements in the row order, that is by their numbers
abbrev pub placed_of : (ℕ → Outcome) → ℕ → List ℕ
placed_of outcome n = each n (λ (k : ℕ). if_placed (outcome k) k)

abbrev pub placed_elements : Access → List ℕ
placed_elements a = placed_of (outcome_of a) (elements_of a)

-- an order of them is a permutation, as the library has it: theorem `each_once` says that each of them stands in it once, and nothing else
abbrev pub Order : Access → List ℕ → Type 0
Order a order = Perm order (placed_elements a)

-- the elements that a list names, each stored on what the one before it in the list left
abbrev pub stored_in_order : Access → ℕ → List ℕ → State → State
stored_in_order a register order s = foldl (λ (s : State) (k : ℕ). stored a.size register k (outcome_of a k) s) s order

-- what a step does on a card that stores in an order of its own
unfoldable pub performed_in_order : Tensors → Step → List ℕ → Machine → Machine
performed_in_order tensors Nothing order m = performed_step tensors Nothing m
performed_in_order tensors (Load register object window) order m = performed_step tensors (Load register object window) m
performed_in_order tensors (Store register window) order m =
    machine_of m.registers.types (stored_in_order (store_on tensors register window m) register order (state_of m))
performed_in_order tensors (Whole whole) order m = performed_step tensors (Whole whole) m

-- n steps more, the next of which is number k, each with its order
unfoldable pub performed_in_orders_from : ℕ → Sheet → (ℕ → List ℕ) → ℕ → Machine → Machine
performed_in_orders_from zero sh order k m = m
performed_in_orders_from (suc n) sh order k m =
    performed_in_orders_from n sh order (k + 1) (performed_in_order sh.tensors (the_step sh.step k) (order k) m)

-- the steps in order, each store with its elements in its own
unfoldable pub performed_in_orders : Sheet → (ℕ → List ℕ) → Machine → Machine
performed_in_orders sh order m = performed_in_orders_from sh.steps sh order 0 m

-- if a step is a store, a list is an order of its placed elements on a machine
abbrev pub OrderOn : Tensors → Step → Machine → List ℕ → Type 0
OrderOn tensors Nothing m order = Unit {0}
OrderOn tensors (Load register object window) m order = Unit {0}
OrderOn tensors (Store register window) m order = Order (store_on tensors register window m) order
OrderOn tensors (Whole whole) m order = Unit {0}

-- and so for each step of a sheet, on the machine that the steps before it leave
abbrev pub OrdersOn : Sheet → Machine → (ℕ → List ℕ) → Type 0
OrdersOn sh m order = (k : ℕ) → k < sh.steps → OrderOn sh.tensors (the_step sh.step k) (performed_from k sh 0 m) (order k)
