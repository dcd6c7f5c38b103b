-- A load, a store and a step that their check accepts, and the outcomes of an access as the code holds them.
use Rattle.std.specs.Prelude.{ℕ, ◌<◌, ◌≤◌, ◌≡◌, true, List, get_or}
use Rattle.outcomes.specs.declared.Outcome.{Outcome}
use Rattle.sheet.specs.Sizes.{matrix_places, memory_limit}
use Rattle.sheet_ranges.specs.Steps.{step_ok}
use Rattle.sheet_ranges.specs.Laws.Within.{TensorsWithin}
use Rattle.sheet.specs.declared.Tensors.{Tensors}
use Rattle.sheet.specs.declared.Step.{Step}
use Rattle.registers.specs.Sized.{Sized}
use Rattle.registers.specs.declared.MatrixType.{MatrixType}
use Rattle.addressing.specs.Rules.{elements_of}
use Rattle.addressing.specs.Valid.{SizedAccess}
use Rattle.addressing.specs.declared.Access.{Access}
use Rattle.accesses.specs.Refusals.{access_refusal}
use Rattle.accesses.specs.Entries.{entry_outcome}
use Rattle.transfers.specs.Transfers.{outcome_of}
use Rattle.checking.specs.Steps.{checked_step}
use Rattle.accepted.specs.declared.Outcomes.{Outcomes}

-- the access of a load or a store that is accepted
pub record ClearAccess (a : Access) : Type 0 where
  pub sized : SizedAccess a
  pub clear : (access_refusal a).number ≡ 0

-- a step, at the types that the steps before left
pub record ClearStep (tensors : Tensors) (ts : List MatrixType) (len : ℕ) (step : Step) : Type 0 where
  pub within : TensorsWithin tensors
  pub memory : len ≤ memory_limit
  pub sized : Sized ts
  pub edition : ℕ
  pub ok : step_ok edition tensors.layouts tensors.views step ≡ true
  pub clear : (checked_step edition tensors ts len step).stop.number ≡ 0

-- the outcomes that the entries of a survey stand for, where filled elements take these bits
abbrev pub entries_outcome : List ℕ → ℕ → ℕ → Outcome
entries_outcome entries fill k = entry_outcome fill (get_or entries k 0)

-- they are those of an access, all of them
pub record Listed (a : Access) (entries : List ℕ) (o : Outcomes) : Type 0 where
  pub count : o.count ≡ elements_of a
  pub few : o.count ≤ matrix_places
  pub each : (k : ℕ) → k < elements_of a → entries_outcome entries o.fill k ≡ outcome_of a k
