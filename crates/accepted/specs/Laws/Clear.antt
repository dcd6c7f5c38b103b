-- The access of a step that its check accepts.
use Rattle.std.specs.Prelude.{ℕ, ◌<◌, ◌≤◌, ◌≡◌, refl, List}
use Rattle.std.proofs.Common.{sym, ap, subst, ◌∙◌, arith}
use Rattle.std.proofs.Math.Bool.{true, false}
use Rattle.numbers.specs.Lists.{each}
use Rattle.sheet.specs.declared.Tensors.{Tensors}
use Rattle.sheet.specs.declared.Step.{Step}
use Rattle.sheet.specs.declared.Step.TheVariants.{Nothing, Load, Store, Whole}
use Rattle.sheet_ranges.specs.Steps.{the_step}
use Rattle.sheet_reader.specs.Parts.{sheet_of, Outlined}
use Rattle.sheet_reader.specs.declared.Given.{Given}
use Rattle.sheet_parts.specs.Laws.{outlined_within}
use Rattle.registers.specs.Types.{the_type, with_type}
use Rattle.registers.specs.declared.MatrixType.{MatrixType}
use Rattle.sheet.specs.Sizes.{memory_limit}
use Rattle.addressing.specs.declared.Access.{Access}
use Rattle.checking.specs.Steps.{access_of, object_register, checked_step}
use Rattle.checking.specs.Turns.{step_access, Met, Turned}
use Rattle.checking.specs.Laws.Accesses.{access_clear, turned_sized}
use Rattle.checking.specs.Laws.Met.{all_steps}
use Rattle.checking.specs.declared.turns.Turn.{Turn}
use Rattle.accepted.specs.Accepted.{ClearAccess, ClearStep}
use Rattle.accepted.specs.Elements.{of_access, of_step}
use Rattle.accepted.specs.Laws.Rests.{Rest, rest_step}

-- it is accepted where it has elements
module _ {tensors : Tensors} {ts : List MatrixType} {len : ℕ} where
  turned : (step : Step) (s : ClearStep tensors ts len step) → Turned s.edition tensors ts len step (step_access tensors ts len step)
  turned step s = record { within = s.within; memory = s.memory; sized = s.sized; ok = s.ok; access = refl }

  pub step_clear : (step : Step) → ClearStep tensors ts len step → 0 < (step_access tensors ts len step).rows → ClearAccess (step_access tensors ts len step)
  unfolding checked_step
  step_clear Nothing s h = absurd (omega arith)
  step_clear (Load register object window) s h =
      let t = the_type ts (object_register register object) in
      record {
        sized = turned_sized (turned (Load register object window) s) h;
        clear = (access_clear ts (with_type ts register t) t (access_of tensors true window t len) s.clear).clear;
      }
  step_clear (Store register window) s h =
      let t = the_type ts register in
      record {
        sized = turned_sized (turned (Store register window) s) h;
        clear = (access_clear ts ts t (access_of tensors false window t len) s.clear).clear;
      }
  step_clear (Whole whole) s h = absurd (omega arith)

-- what a step gives is what its access gives
pub of_step_lem : {A : Type 0} (f : ℕ → Access → ℕ → A) (tensors : Tensors) (ts : List MatrixType) (len k : ℕ) (step : Step)
    → of_step f tensors ts len k step ≡ of_access (f k) (step_access tensors ts len step)
unfolding of_step of_access each
of_step_lem f tensors ts len k Nothing = refl
of_step_lem f tensors ts len k (Load register object window) = refl
of_step_lem f tensors ts len k (Store register window) = refl
of_step_lem f tensors ts len k (Whole whole) = refl

-- a turn of a pass over an accepted sheet
module _ {s parts : List ℕ} {g : Given} (o : Outlined s parts g) {ts : List MatrixType} {len k : ℕ} {t : Turn} (h : k < g.steps) (m : Met s ts len k t) where
  pub met_clear : len ≤ memory_limit → Rest (sheet_of s) len k ts → 0 < t.access.rows → ClearAccess t.access
  met_clear few r n =
      subst ClearAccess (sym m.access)
      (step_clear (the_step (sheet_of s).step k) (rest_step (sheet_of s) (outlined_within o) len few k ts (subst (λ (x : ℕ). k < x) (all_steps o) h) r)
      (subst (λ (x : Access). 0 < x.rows) m.access n))

  pub met_gives : {A : Type 0} (f : ℕ → Access → ℕ → A) → of_step f (sheet_of s).tensors ts len k (the_step (sheet_of s).step k) ≡ of_access (f k) t.access
  met_gives f = of_step_lem f (sheet_of s).tensors ts len k (the_step (sheet_of s).step k) ∙ ap (of_access (f k)) (sym m.access)
