-- Two stores that share no byte may change places on any machine.
use Rattle.std.specs.Prelude.{ℕ, ◌≡◌, refl, true, List}
use Rattle.std.proofs.Common.{sym, ◌∙◌, true≢false}
use Rattle.std.proofs.Math.Path.{ap}
use Rattle.std.proofs.Math.Bool.{false}
use Rattle.sheet.specs.declared.Window.{Window}
use Rattle.sheet.specs.declared.Tensors.{Tensors}
use Rattle.sheet.specs.declared.Step.{Step}
use Rattle.sheet.specs.declared.Step.TheVariants.{Nothing, Load, Store, Whole}
use Rattle.registers.specs.Types.{the_type}
use Rattle.registers.specs.declared.MatrixType.{MatrixType}
use Rattle.addressing.specs.declared.Access.{Access}
use Rattle.transfers.specs.Transfers.{stored_elements}
use Rattle.checking.specs.Steps.{access_of, checked_step, step_types}
use Rattle.checking.specs.Laws.Steps.{check_types}
use Rattle.carrying.specs.Steps.{Machine, state_of, machine_of, store_done, performed_step}
use Rattle.carrying.specs.Bytes.{store_on, HasByteOf, is_store, Writes}
use Rattle.carrying.specs.Laws.Types.{step_length_lem}
use Rattle.orders.proofs.Laws.Elements.{stores_apart}

-- what holds of every store holds of a step that is one
by_store : (P : Step → Type 0) (step : Step) → is_store step ≡ true → ((register : ℕ) (window : Window) → P (Store register window)) → P step
by_store P Nothing e f = absurd (true≢false (sym e))
by_store P (Load register object window) e f = absurd (true≢false (sym e))
by_store P (Store register window) e f = f register window
by_store P (Whole whole) e f = absurd (true≢false (sym e))

-- a store that is accepted leaves the types as they are
pub store_types : (edition : ℕ) (tensors : Tensors) (ts : List MatrixType) (len : ℕ) (step : Step) → is_store step ≡ true
    → (checked_step edition tensors ts len step).stop.number ≡ 0 → (checked_step edition tensors ts len step).types ≡ ts
store_types edition tensors ts len step e ok =
    check_types edition tensors ts len step ok ∙ by_store (λ (x : Step). step_types ts x ≡ ts) step e (λ register window. refl)

-- a store of register r through window v, and then one of register q through window w
module _ (tensors : Tensors) (m : Machine) (r : ℕ) (v : Window) (q : ℕ) (w : Window) where
  -- the first leaves the types and the memory's length, by which the second goes
  same_store : store_on tensors q w (performed_step tensors (Store r v) m) ≡ store_on tensors q w m
  unfolding performed_step store_done
  same_store = ap (access_of tensors false w (the_type m.registers.types q)) (step_length_lem tensors (Store r v) m)

  both_stored : performed_step tensors (Store q w) (performed_step tensors (Store r v) m)
      ≡ machine_of m.registers.types (stored_elements (store_on tensors q w m) q (stored_elements (store_on tensors r v m) r (state_of m)))
  unfolding performed_step store_done
  both_stored =
      ap (λ (a : Access). machine_of m.registers.types (stored_elements a q (stored_elements (store_on tensors r v m) r (state_of m)))) same_store

-- step y writes, after step x, no byte that x wrote
abbrev pub ApartOn : Tensors → Step → Step → Machine → Type 0
ApartOn tensors x y m = (b : ℕ) → Writes tensors x m b → Writes tensors y (performed_step tensors x m) b → ⊥

-- they leave the same in either order
abbrev Either : Tensors → Step → Step → Machine → Type 0
Either tensors x y m = performed_step tensors y (performed_step tensors x m) ≡ performed_step tensors x (performed_step tensors y m)

either_store : (tensors : Tensors) (m : Machine) (r : ℕ) (v : Window) (q : ℕ) (w : Window) → ApartOn tensors (Store r v) (Store q w) m
    → Either tensors (Store r v) (Store q w) m
unfolding performed_step store_done
either_store tensors m r v q w h =
    let apart : (i j b : ℕ) → HasByteOf (store_on tensors r v m) i b → HasByteOf (store_on tensors q w m) j b → ⊥ =
    λ i j b f g. h b (refl, (i, f)) (refl, (j, rw (same_store tensors m r v q w) g)) in
    both_stored tensors m r v q w
    ∙ ap (machine_of m.registers.types) (stores_apart _ _ q r _ _ _ _ (λ j i b l k g f. apart i j b (k, f) (l, g)) (state_of m))
    ∙ sym (both_stored tensors m q w r v)

-- Two stores of which the second writes no byte that the first wrote leave the same in either order.
pub stores_exchange : (tensors : Tensors) (x y : Step) (m : Machine) → is_store x ≡ true → is_store y ≡ true → ApartOn tensors x y m
    → performed_step tensors y (performed_step tensors x m) ≡ performed_step tensors x (performed_step tensors y m)
stores_exchange tensors x y m p q =
    by_store (λ (x : Step). ApartOn tensors x y m → Either tensors x y m) x p
    (λ r v. by_store (λ (y : Step). ApartOn tensors (Store r v) y m → Either tensors (Store r v) y m) y q (either_store tensors m r v))
