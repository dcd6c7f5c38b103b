-- Elements fit: after carrying out a sheet, refused or not, each element is below 2 to its kind's width, and the places past a matrix are 0.
use Rattle.std.specs.Prelude.{ℕ, ◌≡◌, List, eqb, length}
use Rattle.std.proofs.Common.{eqb-true}
use Rattle.numbers.specs.Laws.Choice.{pick_case}
use Rattle.numbers.specs.Bytes.{AreBytes}
use Rattle.sheet_reader.specs.Reading.{read_sheet}
use Rattle.registers.specs.Fits.{Fit}
use Rattle.registers.specs.Laws.Fits.{fit_empty}
use Rattle.checking.specs.Checking.{checked_sheet}
use Rattle.checking.specs.Laws.Readable.{sheet_readable}
use Rattle.carrying.specs.Carrying.{performed, started, CarriedOut, carried, carried_memory}
use Rattle.carrying.specs.Laws.Fits.{FitMachine, sheet_fits}

module _ (s memory : List ℕ) (b : AreBytes memory) where
  -- what an accepted sheet leaves
  accepted_fits : (checked_sheet s (length memory)).refusal.number ≡ 0 → FitMachine (performed (read_sheet s).sheet (started memory))
  accepted_fits e =
      let r = sheet_readable s (length memory) e in
      sheet_fits (read_sheet s).sheet r.within memory r.clear b

  -- The elements of the registers that carrying out gives fit.
  pub carried_fits : Fit (carried s memory).registers.types (carried s memory).registers.elements
  unfolding carried
  carried_fits =
      pick_case (λ (r : CarriedOut). Fit r.registers.types r.registers.elements) (eqb (checked_sheet s (length memory)).refusal.number 0) _ _
      (λ e. (accepted_fits (eqb-true _ 0 e)).fit) (λ e. fit_empty)

  -- Memory of bytes stays so.
  pub carried_bytes : AreBytes (carried_memory s memory)
  unfolding carried_memory
  carried_bytes =
      pick_case AreBytes (eqb (checked_sheet s (length memory)).refusal.number 0) _ _ (λ e. (accepted_fits (eqb-true _ 0 e)).bytes) (λ e. b)
