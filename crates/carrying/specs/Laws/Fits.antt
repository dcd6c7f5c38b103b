-- Elements fit: a step that is accepted leaves elements that fit, and memory of bytes.
use Rattle.std.specs.Prelude.{◌≡◌, refl, true, false, List, length}
use Rattle.std.proofs.Common.{◌∙◌, le_refl, arith}
use Prim.Native.Nat.{ℕ, zero, suc, ◌+◌, ◌*◌, ◌<◌, ◌≤◌}
use Rattle.numbers.specs.Bytes.{AreBytes}
use Rattle.numbers.specs.Laws.Lists.{length_line}
use Rattle.sheet.specs.Sizes.{register_count, matrix_places}
use Rattle.sheet_ranges.specs.Steps.{the_step, step_ok}
use Rattle.sheet_ranges.specs.Laws.Within.{Within}
use Rattle.sheet.specs.declared.Object.{Object}
use Rattle.sheet.specs.declared.Object.TheVariants.{Kept, Zeros, Register}
use Rattle.sheet.specs.declared.Tensors.{Tensors}
use Rattle.sheet.specs.declared.Sheet.{Sheet}
use Rattle.sheet.specs.declared.Step.{Step}
use Rattle.sheet.specs.declared.Step.TheVariants.{Nothing, Load, Store, Whole}
use Rattle.sheet.specs.declared.WholeStep.{WholeStep}
use Rattle.registers.specs.Types.{the_type}
use Rattle.registers.specs.Registers.{place_of, element_of, copied, zeroed}
use Rattle.registers.specs.Laws.Fits.{fit_empty, fit_zeroed, fit_copied}
use Rattle.whole_steps.specs.Refusals.{whole_refusal}
use Rattle.whole_steps.specs.Whole.{whole_result}
use Rattle.whole_steps.specs.Within.{WholeOk}
use Rattle.whole_steps.proofs.Laws.Within.{whole_ok_lem}
use Rattle.whole_steps.proofs.Laws.Fits.{whole_fits}
use Rattle.transfers.proofs.Laws.Fits.{Fits, load_fits, store_fits}
use Rattle.checking.specs.Steps.{object_register, access_of, checked_step}
use Rattle.checking.specs.Checking.{checked}
use Rattle.checking.specs.Laws.Names.{load_register, load_object}
use Rattle.checking.specs.Laws.Turns.{within_step}
use Rattle.carrying.specs.Steps.{Machine, machine, state_of, with_object, object_done, load_done, store_done, whole_step_done, performed_step}
use Rattle.carrying.specs.Carrying.{performed_from, performed, started}
use Rattle.carrying.specs.Machines.{Accepted, step_on, Formed}
use Rattle.carrying.specs.Laws.Types.{started_formed, step_formed, check_from, first_accepted, rest_checked}
use Rattle.carrying.specs.Laws.Loops.{given_sized}

-- the elements of a machine's registers fit, and its memory is bytes
abbrev pub FitMachine : Machine → Type 0
FitMachine m = Fits m.registers.types (state_of m)

pub started_fits : (memory : List ℕ) → AreBytes memory → FitMachine (started memory)
started_fits memory b = record { places = (started_formed memory).places; fit = fit_empty; bytes = b }

module _ (m : Machine) (w : Formed m) (f : FitMachine m) where
  -- a register made equal to another
  pub copied_fits : (register object : ℕ) → object < register_count → FitMachine (machine (copied m.registers register object) m.memory m.counts)
  copied_fits register object l =
      record {
        places = length_line m.registers.elements (place_of register 0) (element_of m.registers.elements object) matrix_places ∙ f.places;
        fit = fit_copied m.registers.types m.registers.elements register object w.registers w.places l w.sized f.fit;
        bytes = f.bytes;
      }

  -- a register made zeros
  pub zeroed_fits : (register : ℕ) → register < register_count → FitMachine (machine (zeroed m.registers register) m.memory m.counts)
  zeroed_fits register l =
      let t = the_type m.registers.types register in
      record {
        places = length_line m.registers.elements (place_of register 0) (λ (e : ℕ). 0) (t.rows * t.columns) ∙ f.places;
        fit = fit_zeroed m.registers register w.sized l w.places f.fit;
        bytes = f.bytes;
      }

  object_fits : (register : ℕ) (object : Object) → object_register register object < register_count → FitMachine (object_done register object m)
  unfolding with_object
  object_fits register Kept l = f
  object_fits register Zeros l = zeroed_fits register l
  object_fits register (Register object) l = copied_fits register object l

  -- a whole step
  pub whole_step_fits : (edition : ℕ) (whole : WholeStep) → WholeOk whole → (whole_refusal edition m.registers.types (length m.memory) whole).number ≡ 0
      → FitMachine (whole_step_done whole m)
  whole_step_fits edition whole ok a =
      record {
        places = length_line m.registers.elements (place_of (whole_result whole) 0) _ matrix_places ∙ f.places;
        fit = whole_fits edition m.registers.types m.registers.elements m.memory w.sized f.fit w.registers w.places whole ok a;
        bytes = f.bytes;
      }

-- Performing a step that is not refused leaves elements that fit.
pub step_fits : (edition : ℕ) (tensors : Tensors) (step : Step) (m : Machine) (edition' layouts views : ℕ)
    → step_ok edition' layouts views step ≡ true → Accepted edition tensors step m → Formed m → FitMachine m → FitMachine (performed_step tensors step m)
unfolding checked_step performed_step load_done store_done
step_fits edition tensors Nothing m edition' layouts views ok a w f = f
step_fits edition tensors (Load register object window) m edition' layouts views ok a w f =
    let given = object_done register object m in
    let t = the_type given.registers.types register in
    load_fits given.registers.types (given_sized m register w object) (access_of tensors true window t (length m.memory)) register
    (load_register _ _ _ _ _ _ ok) refl (le_refl _) (state_of given) (object_fits m w f register object (load_object _ _ _ _ _ _ ok))
step_fits edition tensors (Store register window) m edition' layouts views ok a w f =
    let t = the_type m.registers.types register in
    store_fits m.registers.types (access_of tensors false window t (length m.memory)) register (state_of m) f
step_fits edition tensors (Whole whole) m edition' layouts views ok a w f = whole_step_fits m w f edition whole (whole_ok_lem edition' whole ok) a

-- So do accepted steps of a sheet within Sizes, one after the other.
module _ (sh : Sheet) (w : Within sh) where
  from_fits : (n k : ℕ) (m : Machine) (count : ℕ) → k + n ≤ sh.steps → (check_from n sh k m count).refusal.number ≡ 0 → Formed m → FitMachine m
      → FitMachine (performed_from n sh k m)
  unfolding performed_from
  from_fits zero k m count l h f g = g
  from_fits (suc n) k m count l h f g =
      let step = the_step sh.step k in
      let ok = within_step sh w k (omega arith) in
      let a = first_accepted n sh k m count h in
      from_fits n (k + 1) (performed_step sh.tensors step m) (count + (step_on sh k m).placed) (omega arith) (rw (rest_checked n sh k m count a) at h)
      (step_formed sh.edition sh.tensors step m sh.edition sh.tensors.layouts sh.tensors.views ok a f)
      (step_fits sh.edition sh.tensors step m sh.edition sh.tensors.layouts sh.tensors.views ok a f g)

  pub sheet_fits : (memory : List ℕ) → (checked sh (length memory)).refusal.number ≡ 0 → AreBytes memory → FitMachine (performed sh (started memory))
  unfolding checked performed
  sheet_fits memory h b = from_fits sh.steps 0 (started memory) 0 (omega arith) h (started_formed memory) (started_fits memory b)
