-- What a step comes out as, and what that tells of the step that was read.
use Rattle.std.specs.Prelude.{ℕ, ◌≡◌, refl}
use Rattle.std.proofs.Common.{sym, true≢false}
use Rattle.std.proofs.Math.Bool.{true, false}
use Rattle.numbers.specs.Choice.{pick}
use Rattle.numbers.specs.Laws.Choice.{taken, left, pick_case}
use Rattle.sheet_ranges.specs.Steps.{step_ok, step_unused}
use Rattle.sheet.specs.declared.Step.{Step}
use Rattle.sheet.specs.declared.Step.TheVariants.{Nothing, Load, Store, Whole}
use Rattle.step_contents.specs.Judged.{judged}

module _ (edition layouts views : ℕ) where
  -- what the content says is no step, is beyond Sizes, or is kept
  pub judged_nothing : {st : Step} → Nothing ≡ st → Nothing ≡ judged edition layouts views st
  unfolding judged pick
  judged_nothing e = rw (← e)

  pub judged_none : {st st' : Step} → st' ≡ st → step_ok edition layouts views st' ≡ false → Nothing ≡ judged edition layouts views st
  unfolding judged
  judged_none e bad = rw (← e) (left _ bad refl)

  pub judged_some : {st st' : Step} → st' ≡ st → step_ok edition layouts views st' ≡ true → st' ≡ judged edition layouts views st
  unfolding judged
  judged_some e ok = rw (← e) (taken _ ok refl)

  nothing_bad : (st : Step) → step_unused st ≡ true → step_ok edition layouts views st ≡ false
  nothing_bad Nothing e = refl
  nothing_bad (Load register object window) e = absurd (true≢false (sym e))
  nothing_bad (Store register window) e = absurd (true≢false (sym e))
  nothing_bad (Whole whole) e = absurd (true≢false (sym e))

  -- what came out as nothing is beyond Sizes, and what came out as a step is the one that was read
  pub judged_bad : (st : Step) → step_unused (judged edition layouts views st) ≡ true → step_ok edition layouts views st ≡ false
  unfolding judged
  judged_bad st =
      pick_case (λ (x : Step). step_unused x ≡ true → step_ok edition layouts views st ≡ false) (step_ok edition layouts views st) st Nothing
      (λ t e. nothing_bad st e)
      (λ t e. t)

  pub judged_good : (st : Step) → step_unused (judged edition layouts views st) ≡ false → (step_ok edition layouts views st ≡ true) × (judged edition layouts views st ≡ st)
  unfolding judged
  judged_good st =
      pick_case (λ (x : Step). step_unused x ≡ false → (step_ok edition layouts views st ≡ true) × (x ≡ st)) (step_ok edition layouts views st) st Nothing
      (λ t e. (t, refl))
      (λ t e. absurd (true≢false e))
