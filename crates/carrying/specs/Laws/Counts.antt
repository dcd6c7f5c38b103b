-- Counts: a step that is performed has as many elements with a byte as its check counted.
use Rattle.std.specs.Prelude.{◌≡◌, true, false, ℕ, ◌+◌, ◌<◌, length}
use Rattle.std.proofs.Common.{sym, ap, ◌∙◌, add-zero, arith}
use Rattle.sheet_ranges.specs.Steps.{step_ok}
use Rattle.sheet.specs.declared.Tensors.{Tensors}
use Rattle.sheet.specs.declared.Step.{Step}
use Rattle.sheet.specs.declared.Step.TheVariants.{Nothing, Load, Store, Whole}
use Rattle.registers.specs.Types.{the_type, with_type}
use Rattle.addressing.specs.Rules.{elements_of}
use Rattle.accesses.specs.Refusals.{element_outcome}
use Rattle.counts.specs.declared.Counts.{Counts}
use Rattle.transfers.proofs.Laws.Effects.{transferred_counts, loaded_counts, stored_counts}
use Rattle.checking.specs.Steps.{access_of, object_register, checked_step}
use Rattle.checking.specs.Laws.Names.{load_register}
use Rattle.checking.specs.Laws.Accesses.{access_moved, access_clear}
use Rattle.checking.specs.Laws.Steps.{access_placed}
use Rattle.carrying.specs.Steps.{Machine, state_of, load_done, store_done, performed_step}
use Rattle.carrying.specs.Machines.{check_on, Accepted, Formed}
use Rattle.carrying.specs.Laws.Types.{object_type}

-- Performing a step that is not refused has as many elements with a byte as its check counted.
pub step_count : (edition : ℕ) (tensors : Tensors) (step : Step) (m : Machine) (edition' layouts views : ℕ)
    → step_ok edition' layouts views step ≡ true → Accepted edition tensors step m → Formed m
    → (performed_step tensors step m).counts.placed ≡ m.counts.placed + (check_on edition tensors step m).placed
unfolding checked_step performed_step load_done store_done
step_count edition tensors Nothing m edition' layouts views ok a f = sym (add-zero m.counts.placed)
step_count edition tensors (Load register object window) m edition' layouts views ok a f =
    let ts = m.registers.types in
    let t = the_type ts (object_register register object) in
    let x = access_of tensors true window t (length m.memory) in
    let e = access_moved ts (with_type ts register t) t x (access_clear ts (with_type ts register t) t x a).filled in
    let r : register < length ts = omega (arith, load_register _ _ _ _ _ _ ok, f.registers) in
    rw (object_type register object m r, e)
    (ap (λ (c : Counts). c.placed) (transferred_counts _ (loaded_counts x.size register) (element_outcome x) (elements_of x) _)
    ∙ ap (λ (n : ℕ). m.counts.placed + n) (sym (access_placed x (rw e at a))))
step_count edition tensors (Store register window) m edition' layouts views ok a f =
    let ts = m.registers.types in
    let t = the_type ts register in
    let x = access_of tensors false window t (length m.memory) in
    let e = access_moved ts ts t x (access_clear ts ts t x a).filled in
    ap (λ (c : Counts). c.placed) (transferred_counts _ (stored_counts x.size register) (element_outcome x) (elements_of x) (state_of m))
    ∙ rw e (ap (λ (n : ℕ). m.counts.placed + n) (sym (access_placed x (rw e at a))))
step_count edition tensors (Whole whole) m edition' layouts views ok a f = sym (add-zero m.counts.placed)
