-- The types that a record in range leaves.
use Rattle.std.specs.Prelude.{ℕ, ◌<◌, ◌≡◌, refl, true, List, length}
use Rattle.std.proofs.Common.{sym, true≢false, eqb-true, ltb-true, length-set}
use Rattle.numbers.specs.Laws.Choice.{both_left, both_right}
use Rattle.sheet_ranges.specs.Steps.{the_step}
use Rattle.sheet.specs.declared.Sheet.{Sheet}
use Rattle.sheet.specs.declared.Step.{Step}
use Rattle.sheet.specs.declared.Step.TheVariants as step
use Rattle.sheet.specs.declared.WholeStep.{WholeStep}
use Rattle.sheet_ranges.specs.Laws.Within.{Within}
use Rattle.registers.specs.declared.MatrixType.{MatrixType}
use Rattle.registers.specs.Types.{the_type}
use Rattle.registers.specs.Sized.{Sized}
use Rattle.registers.specs.Laws.Sized.{sized_with}
use Rattle.whole_steps.specs.Refusals.{whole_refusal}
use Rattle.whole_steps.specs.Within.{WholeOk}
use Rattle.whole_steps.proofs.Laws.Within.{whole_ok_lem, sized_whole}
use Rattle.checking.specs.Laws.Turns.{within_step}
use Rattle.records.specs.declared.Record.{Record}
use Rattle.records.specs.declared.Record.TheVariants.{Copy, Take, Put, Fill, Whole}
use Rattle.records.specs.declared.Decoded.{Decoded}
use Rattle.records.specs.declared.Decoded.TheVariants.{Good, Bad}
use Rattle.judging.specs.Records.{whole_clear, whole_record_ok, record_ok, record_types}
use Rattle.judging.specs.Judging.{decoded_ok, decoded_types}

-- the whole step that op 4 names where it is not out of range
pub record Named (sh : Sheet) (ts : List MatrixType) (len k : ℕ) : Type 0 where
  pub given : k < sh.steps
  pub whole : WholeStep
  pub is : the_step sh.step k ≡ step.Whole whole
  pub clear : (whole_refusal sh.edition ts len whole).number ≡ 0

named : (sh : Sheet) (ts : List MatrixType) (len k : ℕ) (st : Step) → k < sh.steps → the_step sh.step k ≡ st → whole_clear sh.edition ts len st ≡ true → Named sh ts len k
named sh ts len k step.Nothing g i e = absurd (true≢false (sym e))
named sh ts len k (step.Load register object window) g i e = absurd (true≢false (sym e))
named sh ts len k (step.Store register window) g i e = absurd (true≢false (sym e))
named sh ts len k (step.Whole whole) g i e = record { given = g; whole = whole; is = i; clear = eqb-true _ _ e }

pub whole_named : (sh : Sheet) (ts : List MatrixType) (len k : ℕ) → record_ok sh ts len (Whole k) ≡ true → Named sh ts len k
unfolding whole_record_ok
whole_named sh ts len k e = named sh ts len k (the_step sh.step k) (ltb-true _ _ (both_left _ _ e)) refl (both_right _ _ e)

-- op 4
pub whole_within : (sh : Sheet) → Within sh → (ts : List MatrixType) (len k : ℕ) (n : Named sh ts len k) → WholeOk n.whole
whole_within sh w ts len k n = whole_ok_lem sh.edition n.whole (rw n.is at (within_step sh w k n.given))

-- the types that a record leaves are within Sizes, and as many
module _ (sh : Sheet) (w : Within sh) (ts : List MatrixType) (len : ℕ) where
  pub record_sized : (r : Record) → record_ok sh ts len r ≡ true → Sized ts → Sized (record_types sh ts r)
  record_sized (Copy register object) e s = sized_with ts register (the_type ts object) s (s.each object)
  record_sized (Take register first count byte up down) e s = s
  record_sized (Put register first count byte up down) e s = s
  record_sized (Fill register first count value) e s = s
  record_sized (Whole k) e s =
      let n = whole_named sh ts len k e in rw n.is (sized_whole ts n.whole s (whole_within sh w ts len k n))

  pub decoded_sized : (d : Decoded) → decoded_ok sh ts len d ≡ true → Sized ts → Sized (decoded_types sh ts d)
  decoded_sized (Good r) e s = record_sized r e s
  decoded_sized Bad e s = s

pub record_registers : (sh : Sheet) (ts : List MatrixType) (len : ℕ) (r : Record) → record_ok sh ts len r ≡ true → length (record_types sh ts r) ≡ length ts
record_registers sh ts len (Copy register object) e = length-set ts register _
record_registers sh ts len (Take register first count byte up down) e = refl
record_registers sh ts len (Put register first count byte up down) e = refl
record_registers sh ts len (Fill register first count value) e = refl
record_registers sh ts len (Whole k) e = rw (whole_named sh ts len k e).is (length-set ts _ _)
