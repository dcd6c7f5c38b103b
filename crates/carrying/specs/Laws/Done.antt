-- What the code leaves after the elements of a load or a store is what the step does.
use Rattle.std.specs.Prelude.{ℕ, ◌<◌, ◌≡◌, false, length}
use Rattle.std.proofs.Common.{sym, subst, ◌∙◌, arith}
use Rattle.std.proofs.Math.Path.{ap}
use Rattle.std.proofs.Math.Bool.{true}
use Rattle.std.proofs.lemmas.Bool.{eqb-false}
use Rattle.sheet.specs.declared.Object.{Object}
use Rattle.sheet.specs.declared.Window.{Window}
use Rattle.sheet.specs.declared.Tensors.{Tensors}
use Rattle.sheet.specs.declared.Step.{Step}
use Rattle.sheet.specs.declared.Step.TheVariants.{Load, Store}
use Rattle.registers.specs.Types.{the_type}
use Rattle.registers.specs.declared.MatrixType.{MatrixType}
use Rattle.registers.specs.declared.Registers.{Registers}
use Rattle.addressing.specs.declared.Access.{Access}
use Rattle.accesses.specs.Refusals.{access_refusal}
use Rattle.transfers.specs.Acts.{State, state}
use Rattle.transfers.specs.Transfers.{loaded_elements, stored_elements}
use Rattle.checking.specs.Steps.{access_of, object_register, checked_step}
use Rattle.checking.specs.Turns.{step_access, Turned}
use Rattle.checking.specs.Clear.{Clear}
use Rattle.checking.specs.Laws.Accesses.{access_clear, turned_sized}
use Rattle.accepted.specs.Accepted.{ClearAccess}
use Rattle.carrying.specs.Steps.{Machine, state_of, machine_of, with_object, object_done, load_done, store_done, performed_step}
use Rattle.carrying.specs.Machines.{Accepted}
use Rattle.carrying.specs.Laws.Types.{object_type}

-- the access of a load or a store that is accepted
module _ (edition : ℕ) (tensors : Tensors) (m : Machine) (register : ℕ) (window : Window) {a : Access} where
  its_clear : (step : Step) (t : MatrixType) → Turned edition tensors m.registers.types (length m.memory) step a → a.rows ≡ t.rows → Clear t (step_access tensors m.registers.types (length m.memory) step) → ClearAccess a
  its_clear step t d e c =
      let n = eqb-false t.rows 0 c.filled in
      record { sized = turned_sized d (omega (arith, e, n)); clear = subst (λ (x : Access). (access_refusal x).number ≡ 0) (sym d.access) c.clear }

  pub load_clear : (object : Object) → Turned edition tensors m.registers.types (length m.memory) (Load register object window) a → Accepted edition tensors (Load register object window) m → ClearAccess a
  unfolding checked_step
  load_clear object d c =
      its_clear (Load register object window) (the_type m.registers.types (object_register register object)) d (ap (λ (x : Access). x.rows) d.access) (access_clear _ _ _ _ c)

  pub store_clear : Turned edition tensors m.registers.types (length m.memory) (Store register window) a → Accepted edition tensors (Store register window) m → ClearAccess a
  unfolding checked_step
  store_clear d c =
      its_clear (Store register window) (the_type m.registers.types register) d (ap (λ (x : Access). x.rows) d.access) (access_clear _ _ _ _ c)

-- what its elements leave
module _ (tensors : Tensors) (m : Machine) (register : ℕ) (window : Window) {a : Access} {s : State} where
  pub load_performed : (object : Object) {g : Registers} → g ≡ with_object register object m.registers → register < length m.registers.types
      → a ≡ step_access tensors m.registers.types (length m.memory) (Load register object window)
      → s ≡ loaded_elements a register (state g.elements m.memory m.counts) → machine_of g.types s ≡ performed_step tensors (Load register object window) m
  unfolding performed_step load_done
  load_performed object w l e x =
      ap (λ (r : Registers). machine_of r.types s) w
      ∙ ap (machine_of (object_done register object m).registers.types)
      (x
      ∙ ap (λ (r : Registers). loaded_elements a register (state r.elements m.memory m.counts)) w
      ∙ ap (λ (b : Access). loaded_elements b register (state_of (object_done register object m)))
      (e ∙ ap (λ (t : MatrixType). access_of tensors true window t (length m.memory)) (sym (object_type register object m l))))

  pub store_performed : a ≡ step_access tensors m.registers.types (length m.memory) (Store register window) → s ≡ stored_elements a register (state_of m)
      → machine_of m.registers.types s ≡ performed_step tensors (Store register window) m
  unfolding performed_step store_done
  store_performed e x = ap (machine_of m.registers.types) (x ∙ ap (λ (b : Access). stored_elements b register (state_of m)) e)
