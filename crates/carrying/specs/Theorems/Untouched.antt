-- Nothing else changes: a byte that no placed element of a store has is unchanged by carrying out.
use Rattle.std.specs.Prelude.{◌≡◌, refl, false, List, ℕ, zero, suc, ◌+◌, ◌<◌, eqb, length, get_or}
use Rattle.std.proofs.Common.{◌∙◌, true≢false, zero-add, add-zero, arith}
use Rattle.numbers.specs.Laws.Choice.{pick_case}
use Rattle.sheet_ranges.specs.Steps.{the_step}
use Rattle.sheet.specs.declared.Tensors.{Tensors}
use Rattle.sheet.specs.declared.Sheet.{Sheet}
use Rattle.sheet.specs.declared.Step.{Step}
use Rattle.sheet.specs.declared.Step.TheVariants.{Nothing, Load, Store, Whole}
use Rattle.sheet_reader.specs.Reading.{read_sheet}
use Rattle.transfers.specs.Acts.{State}
use Rattle.transfers.proofs.Laws.Elements.{loaded_memory}
use Rattle.transfers.proofs.Laws.Effects.{transferred_keeps, stores_outside}
use Rattle.checking.specs.Checking.{checked_sheet}
use Rattle.carrying.specs.Steps.{Machine, state_of, load_done, store_done, object_done, performed_step}
use Rattle.carrying.specs.Carrying.{performed_from, performed, started, carried_memory}
use Rattle.carrying.specs.Laws.Types.{sheet_length}
use Rattle.carrying.specs.Bytes.{is_store, Writes, Unwritten}

-- Loads and whole steps never change memory.
pub step_memory : (tensors : Tensors) (step : Step) (m : Machine) → is_store step ≡ false → (performed_step tensors step m).memory ≡ m.memory
unfolding performed_step load_done
step_memory tensors Nothing m e = refl
step_memory tensors (Load register object window) m e =
    transferred_keeps (λ (s : State). s.memory) _ (loaded_memory _ register) _ _ (state_of (object_done register object m))
step_memory tensors (Store register window) m e = absurd (true≢false e)
step_memory tensors (Whole whole) m e = refl

-- A byte that a step does not write is as before.
pub step_untouched : (tensors : Tensors) (step : Step) (m : Machine) (b : ℕ) → (Writes tensors step m b → ⊥) → get_or (performed_step tensors step m).memory b 0 ≡ get_or m.memory b 0
unfolding performed_step store_done
step_untouched tensors Nothing m b h = refl
step_untouched tensors (Load register object window) m b h = rw (step_memory tensors (Load register object window) m refl)
step_untouched tensors (Store register window) m b h =
    stores_outside _ register b _ _ (state_of m) (λ e l p. h (refl, (e, (l, p))))
step_untouched tensors (Whole whole) m b h = refl

-- n steps, the next of which is number k: step k + i is performed on the machine that the i steps before it leave
pub from_untouched : (n : ℕ) (sh : Sheet) (k : ℕ) (m : Machine) (b : ℕ)
    → ((i : ℕ) → i < n → Writes sh.tensors (the_step sh.step (k + i)) (performed_from i sh k m) b → ⊥)
    → get_or (performed_from n sh k m).memory b 0 ≡ get_or m.memory b 0
unfolding performed_from
from_untouched zero sh k m b h = refl
from_untouched (suc n) sh k m b h =
    let step = the_step sh.step k in
    let first : Writes sh.tensors step m b → ⊥ = rw (add-zero k) at (h 0 (omega arith)) in
    from_untouched n sh (k + 1) (performed_step sh.tensors step m) b
    (λ i l c. let e : k + suc i ≡ k + 1 + i = omega arith in h (suc i) (omega arith) (rw e c))
    ∙ step_untouched sh.tensors step m b first

-- A byte that no step of a sheet writes is as before.
pub sheet_untouched : (sh : Sheet) (m : Machine) (b : ℕ) → Unwritten sh m b → get_or (performed sh m).memory b 0 ≡ get_or m.memory b 0
unfolding performed
sheet_untouched sh m b h = from_untouched sh.steps sh 0 m b (λ i l c. h i l (rw zero-add at c))

-- The same of the memory that carrying out leaves, refused or not; and it is as long as before.
pub carried_untouched : (s memory : List ℕ) (b : ℕ) → Unwritten (read_sheet s).sheet (started memory) b → get_or (carried_memory s memory) b 0 ≡ get_or memory b 0
unfolding carried_memory
carried_untouched s memory b h =
    pick_case (λ (l : List ℕ). get_or l b 0 ≡ get_or memory b 0) (eqb (checked_sheet s (length memory)).refusal.number 0) _ _
    (λ e. sheet_untouched (read_sheet s).sheet (started memory) b h) (λ e. refl)

pub carried_length : (s memory : List ℕ) → length (carried_memory s memory) ≡ length memory
unfolding carried_memory
carried_length s memory =
    pick_case (λ (l : List ℕ). length l ≡ length memory) (eqb (checked_sheet s (length memory)).refusal.number 0) _ _
    (λ e. sheet_length (read_sheet s).sheet (started memory)) (λ e. refl)
