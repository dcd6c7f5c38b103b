-- A machine that is well formed, and a step that is accepted on it.
use Rattle.std.specs.Prelude.{ℕ, ◌≡◌, length}
use Rattle.sheet.specs.Sizes.{register_count, element_places}
use Rattle.sheet_ranges.specs.Steps.{the_step}
use Rattle.sheet.specs.declared.Tensors.{Tensors}
use Rattle.sheet.specs.declared.Sheet.{Sheet}
use Rattle.sheet.specs.declared.Step.{Step}
use Rattle.registers.specs.Sized.{Sized}
use Rattle.registers.specs.Past.{Past}
use Rattle.checking.specs.Steps.{checked_step}
use Rattle.checking.specs.declared.StepCheck.{StepCheck}
use Rattle.carrying.specs.Steps.{Machine}

-- the check of a step on a machine, and that it does not refuse
abbrev pub check_on : ℕ → Tensors → Step → Machine → StepCheck
check_on edition tensors step m = checked_step edition tensors m.registers.types (length m.memory) step

abbrev pub Accepted : ℕ → Tensors → Step → Machine → Type 0
Accepted edition tensors step m = (check_on edition tensors step m).stop.number ≡ 0

-- the same of step k of a sheet
abbrev pub step_on : Sheet → ℕ → Machine → StepCheck
step_on sh k m = check_on sh.edition sh.tensors (the_step sh.step k) m

abbrev pub AcceptedStep : Sheet → ℕ → Machine → Type 0
AcceptedStep sh k m = Accepted sh.edition sh.tensors (the_step sh.step k) m

-- the registers and their places, with types within Sizes, and 0 past each matrix
pub record Formed (m : Machine) : Type 0 where
  pub registers : length m.registers.types ≡ register_count
  pub sized : Sized m.registers.types
  pub places : length m.registers.elements ≡ element_places
  pub past : Past m.registers.types m.registers.elements
