-- How the code reads a step: nothing where it is beyond Sizes.
use Rattle.std.specs.Prelude.{ℕ}
use Rattle.numbers.specs.Choice.{pick}
use Rattle.sheet_ranges.specs.Steps.{step_ok}
use Rattle.sheet.specs.declared.Step.{Step}
use Rattle.sheet.specs.declared.Step.TheVariants.{Nothing}

unfoldable pub judged : ℕ → ℕ → ℕ → Step → Step
judged edition layouts views st = pick (step_ok edition layouts views st) st Nothing
