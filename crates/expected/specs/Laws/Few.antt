-- A sheet within Sizes makes few events.
use Rattle.std.specs.Prelude.{ℕ, ◌*◌, ◌≤◌, length}
use Rattle.sheet.specs.Sizes.{step_places, matrix_places}
use Rattle.sheet.specs.declared.Sheet.{Sheet}
use Rattle.sheet_ranges.specs.Laws.Within.{Within}
use Rattle.accepted.specs.Laws.Elements.{sheet_few}
use Rattle.expected.specs.Expected.{outcome_event, expected}

pub expected_few : (sh : Sheet) → Within sh → (len : ℕ) → length (expected sh len) ≤ step_places * matrix_places
unfolding expected
expected_few sh w len = sheet_few outcome_event sh w len
