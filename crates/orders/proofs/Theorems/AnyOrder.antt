-- Any order: a store's placed elements may be written in any order, each once.
use Rattle.std.specs.Prelude.{ℕ, zero, suc, ◌+◌, ◌<◌, ◌≡◌, refl, false, ◌↔◌, length}
use Rattle.std.proofs.Common.{ap, ◌∙◌, zero-add, add-zero, arith, eq-eqb}
use mathlib.Core.List.Perm
use mathlib.Core.List.Permᴰ
use mathlib.Core.List.{List, Mem, Nodup, perm_ext_iff_of_Nodup}
use mathlib.Core.Logic.Iff
use Rattle.std.proofs.Math.Logic.{∥∥₁_elim}
use Rattle.numbers.specs.Choice.{pick}
use Rattle.numbers.specs.Laws.Choice.{by_place}
use Rattle.refusals.specs.Refusals.{not_refused}
use Rattle.sheet.specs.declared.Tensors.{Tensors}
use Rattle.sheet.specs.declared.Sheet.{Sheet}
use Rattle.sheet.specs.declared.Step.{Step}
use Rattle.sheet.specs.declared.Step.TheVariants.{Nothing, Load, Store, Whole}
use Rattle.sheet_ranges.specs.Steps.{the_step}
use Rattle.sheet_reader.specs.Reading.{read_sheet}
use Rattle.registers.specs.Types.{the_type}
use Rattle.addressing.specs.Rules.{elements_of}
use Rattle.addressing.specs.declared.Access.{Access}
use Rattle.accesses.specs.Refusals.{access_refusal}
use Rattle.transfers.specs.Acts.{State, stored}
use Rattle.transfers.specs.Transfers.{outcome_of, stored_elements}
use Rattle.checking.specs.Steps.{checked_step}
use Rattle.checking.specs.Checking.{checked, checked_sheet}
use Rattle.checking.specs.Laws.Accesses.{access_clear}
use Rattle.checking.specs.Laws.Readable.{sheet_readable}
use Rattle.carrying.specs.Steps.{Machine, state_of, machine_of, store_done, performed_step}
use Rattle.carrying.specs.Carrying.{performed_from, performed, started, carry_answer, carried, carried_memory}
use Rattle.carrying.specs.Bytes.{store_on}
use Rattle.carrying.specs.Machines.{Accepted, step_on}
use Rattle.carrying.specs.Laws.Types.{check_from, first_accepted, rest_checked}
use Rattle.carrying.specs.Theorems.Stores.{access_apart}
use Rattle.orders.specs.Orders.{IsPlaced, placed_elements, Order, stored_in_order, performed_in_order, performed_in_orders_from, performed_in_orders, OrderOn, OrdersOn}
use Rattle.orders.proofs.Laws.Permuted.{permuted}
use Rattle.orders.proofs.Laws.Placed.{placed_only, placed_all, placed_once}
use Rattle.orders.proofs.Laws.Elements.{state_set, row_order, stored_apart}

-- The orders of a store are the lists in which each placed element stands exactly once, and nothing else stands.
module _ (a : Access) where
  placed_exactly : (k : ℕ) → Mem k (placed_elements a) ↔ IsPlaced a k
  placed_exactly k = (placed_only (outcome_of a) (elements_of a) k, λ h. placed_all (outcome_of a) (elements_of a) k h.0 h.1)

  pub each_once : (order : List ℕ) → Order a order ↔ (Nodup order × ((k : ℕ) → Mem k order ↔ IsPlaced a k))
  each_once order = (
    λ p. (Perm.nodup (Perm.symm p) (placed_once (outcome_of a) (elements_of a)), λ k. Iff.trans (Perm.mem_iff p) (placed_exactly k)),
    λ h. (perm_ext_iff_of_Nodup h.0 (placed_once (outcome_of a) (elements_of a))).1 (λ k. Iff.trans (h.1 k) (Iff.symm (placed_exactly k))),
  )

-- Of a store that is not refused:
module _ (a : Access) (register : ℕ) (store : a.load ≡ false) (ok : (access_refusal a).number ≡ 0) where
  -- two elements may be stored in either order
  either_first : (i j : ℕ) → i < elements_of a → j < elements_of a → (s : State)
      → stored a.size register j (outcome_of a j) (stored a.size register i (outcome_of a i) s)
      ≡ stored a.size register i (outcome_of a i) (stored a.size register j (outcome_of a j) s)
  either_first i j l m s =
      by_place j i (λ e. rw e refl)
      (λ d.
      stored_apart a.size a.size register register j i (outcome_of a j) (outcome_of a i)
      (λ b f g. d (access_apart a store ok j i b (m, f) (l, g))) s)

  -- so its placed elements, written in any order, each once, leave what the row order leaves: the same memory, and the same count.
  pub any_order : (order : List ℕ) → Order a order → (s : State) → stored_in_order a register order s ≡ stored_elements a register s
  any_order order p s =
      ∥∥₁_elim p (state_set (stored_in_order a register order s) (stored_in_order a register (placed_elements a) s))
      (λ d.
      permuted _ d
      (λ i j x y.
      either_first i j (placed_only (outcome_of a) (elements_of a) i (Permᴰ.mem d x)).0
      (placed_only (outcome_of a) (elements_of a) j (Permᴰ.mem d y)).0) s)
      ∙ row_order a.size register (outcome_of a) (elements_of a) s

-- The same of an accepted step on any machine.
pub step_any_order : (edition : ℕ) (tensors : Tensors) (step : Step) (m : Machine) → Accepted edition tensors step m
    → (order : List ℕ) → OrderOn tensors step m order → performed_in_order tensors step order m ≡ performed_step tensors step m
unfolding performed_in_order performed_step checked_step store_done
step_any_order edition tensors Nothing m ok order o = refl
step_any_order edition tensors (Load register object window) m ok order o = refl
step_any_order edition tensors (Store register window) m ok order o =
    let ts = m.registers.types in
    let a = store_on tensors register window m in
    ap (machine_of ts) (any_order a register refl (access_clear ts ts (the_type ts register) a ok).clear order o (state_of m))
step_any_order edition tensors (Whole whole) m ok order o = refl

-- n accepted steps, the next of which is number k
from_any_order : (n : ℕ) (sh : Sheet) (k : ℕ) (m : Machine) (count : ℕ) → (check_from n sh k m count).refusal.number ≡ 0 → (order : ℕ → List ℕ)
    → ((i : ℕ) → i < n → OrderOn sh.tensors (the_step sh.step (k + i)) (performed_from i sh k m) (order (k + i)))
    → performed_in_orders_from n sh order k m ≡ performed_from n sh k m
unfolding performed_in_orders_from performed_from
from_any_order zero sh k m count h order o = refl
from_any_order (suc n) sh k m count h order o =
    let step = the_step sh.step k in
    let ok = first_accepted n sh k m count h in
    rw (step_any_order sh.edition sh.tensors step m ok (order k) (rw (add-zero k) at (o 0 (omega arith))))
    (from_any_order n sh (k + 1) (performed_step sh.tensors step m) (count + (step_on sh k m).placed) (rw (rest_checked n sh k m count ok) at h) order
    (λ i l. let e : k + suc i ≡ k + 1 + i = omega arith in rw e at (o (suc i) (omega arith))))

-- A card that writes the placed elements of each store of an accepted sheet in an order of its own, each once, leaves what carrying out leaves.
module _ (s memory : List ℕ) (ok : (checked_sheet s (length memory)).refusal.number ≡ 0)
    (order : ℕ → List ℕ) (o : OrdersOn (read_sheet s).sheet (started memory) order) where
  abbrev card : Machine
  card = performed_in_orders (read_sheet s).sheet order (started memory)

  pub sheet_any_order : performed_in_orders (read_sheet s).sheet order (started memory) ≡ performed (read_sheet s).sheet (started memory)
  unfolding checked performed performed_in_orders
  sheet_any_order =
      let sh = (read_sheet s).sheet in
      from_any_order sh.steps sh 0 (started memory) 0 (sheet_readable s (length memory) ok).clear order (λ i l. rw (zero-add i) (o i l))

  -- the same memory
  pub memory_any_order : (performed_in_orders (read_sheet s).sheet order (started memory)).memory ≡ carried_memory s memory
  unfolding carried_memory pick
  memory_any_order =
      rw (eq-eqb (checked_sheet s (length memory)).refusal.number 0 ok) (ap (λ (m : Machine). m.memory) sheet_any_order)

  -- the same registers and count
  pub carried_any_order : carry_answer not_refused card.registers card.counts ≡ carried s memory
  unfolding carried pick
  carried_any_order =
      rw (eq-eqb (checked_sheet s (length memory)).refusal.number 0 ok)
      (ap (λ (m : Machine). carry_answer not_refused m.registers m.counts) sheet_any_order)
