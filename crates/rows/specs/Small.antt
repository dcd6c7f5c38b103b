-- Every place, second place and count of an answer is small, so its row holds it.
use Rattle.std.specs.Prelude.{ℕ, ◌^◌, ◌<◌}
use Rattle.refusals.specs.declared.Refusal.{Refusal}
use Rattle.outcomes.specs.declared.Outcome.{Outcome}
use Rattle.outcomes.specs.declared.Outcome.TheVariants.{Skipped, Filled, Discarded, Placed}
use Rattle.replaying.specs.declared.Verdict.{Verdict}
use Rattle.replaying.specs.declared.Verdict.TheVariants.{Agrees, Differs}

-- what the row of an answer asks of a refusal and a count
abbrev pub Small : Refusal → ℕ → Type 0
Small r count = (r.place < 2 ^ 32) × (r.element < 2 ^ 32) × (count < 2 ^ 32)

-- the same of a verdict
abbrev pub SmallVerdict : Verdict → Type 0
SmallVerdict Agrees = Unit {0}
SmallVerdict (Differs index) = index < 2 ^ 32

-- the same of an outcome
abbrev pub SmallOutcome : Outcome → Type 0
SmallOutcome Skipped = Unit {0}
SmallOutcome (Filled bits) = Unit {0}
SmallOutcome Discarded = Unit {0}
SmallOutcome (Placed byte) = byte < 2 ^ 32
