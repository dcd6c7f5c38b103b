-- A turn of a pass over a sheet whose parts stand in its bytes.
use Rattle.std.specs.Prelude.{ℕ, ◌<◌, ◌≤◌, ◌≡◌, true, List}
use Rattle.std.proofs.Common.{sym, ap, subst, ◌∙◌}
use Rattle.sheet.specs.Sizes.{memory_limit}
use Rattle.sheet.specs.declared.Tensors.{Tensors}
use Rattle.sheet.specs.declared.Step.{Step}
use Rattle.sheet_ranges.specs.Steps.{the_step, step_ok}
use Rattle.sheet_reader.specs.Parts.{sheet_of, Outlined}
use Rattle.sheet_reader.specs.declared.Given.{Given}
use Rattle.sheet_parts.specs.Laws.{outlined_within}
use Rattle.registers.specs.Sized.{Sized}
use Rattle.registers.specs.declared.MatrixType.{MatrixType}
use Rattle.checking.specs.Steps.{checked_step}
use Rattle.checking.specs.Turns.{step_access, Met, Turned}
use Rattle.checking.specs.Laws.Turns.{within_step}
use Rattle.checking.specs.declared.StepCheck.{StepCheck}
use Rattle.checking.specs.declared.turns.Turn.{Turn}

module _ {s parts : List ℕ} {g : Given} (o : Outlined s parts g) where
  pub all_steps : g.steps ≡ (sheet_of s).steps
  all_steps = ap (λ (x : Given). x.steps) o.given

  pub the_edition : g.edition ≡ (sheet_of s).edition
  the_edition = ap (λ (x : Given). x.edition) o.given

  module _ {ts : List MatrixType} {len k : ℕ} {t : Turn} (h : k < g.steps) (m : Met s ts len k t) where
    -- the step keeps to Sizes, and its access is its own
    met_ok : step_ok g.edition (sheet_of s).tensors.layouts (sheet_of s).tensors.views t.step ≡ true
    met_ok =
        subst (λ (e : ℕ). step_ok e (sheet_of s).tensors.layouts (sheet_of s).tensors.views t.step ≡ true) (sym the_edition)
        (subst (λ (x : Step). step_ok (sheet_of s).edition (sheet_of s).tensors.layouts (sheet_of s).tensors.views x ≡ true) (sym m.step)
        (within_step (sheet_of s) (outlined_within o) k (subst (λ (n : ℕ). k < n) all_steps h)))

    pub met_access : t.access ≡ step_access (sheet_of s).tensors ts len t.step
    met_access = m.access ∙ ap (step_access (sheet_of s).tensors ts len) (sym m.step)

    pub met_turned : len ≤ memory_limit → Sized ts → Turned g.edition (sheet_of s).tensors ts len t.step t.access
    met_turned few z = record { within = (outlined_within o).tensors; memory = few; sized = z; ok = met_ok; access = met_access }

    -- its check is that of step k
    pub met_checked : {c : StepCheck} → ((tensors : Tensors) → t.access ≡ step_access tensors ts len t.step → c ≡ checked_step g.edition tensors ts len t.step)
        → c ≡ checked_step (sheet_of s).edition (sheet_of s).tensors ts len (the_step (sheet_of s).step k)
    met_checked f =
        f (sheet_of s).tensors met_access
        ∙ ap (λ (e : ℕ). checked_step e (sheet_of s).tensors ts len t.step) the_edition
        ∙ ap (checked_step (sheet_of s).edition (sheet_of s).tensors ts len) m.step
