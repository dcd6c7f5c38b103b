-- When a record of a tape is out of range, over the registers' types and the memory's length: refusal 17.
use Rattle.std.specs.Prelude.{ℕ, ◌+◌, ◌*◌, List, Bool, false, not, leb, ltb, eqb, ℤ}
use Rattle.numbers.specs.Choice.{pick, both}
use Rattle.numbers.specs.All.{all}
use Rattle.kinds.specs.Widths.{bytes_of, fits}
use Rattle.sheet_ranges.specs.Steps.{the_step}
use Rattle.sheet.specs.declared.Sheet.{Sheet}
use Rattle.sheet.specs.declared.Step.{Step}
use Rattle.sheet.specs.declared.Step.TheVariants as step
use Rattle.sheet.specs.declared.Step.TheVariants.{Nothing, Load, Store}
use Rattle.registers.specs.Types.{the_type, is_empty, with_type}
use Rattle.registers.specs.declared.MatrixType.{MatrixType}
use Rattle.whole_steps.specs.Refusals.{whole_refusal}
use Rattle.checking.specs.Steps.{step_types}
use Rattle.signed.specs.Numbers.{rise, at_least, difference}
use Rattle.records.specs.declared.Record.{Record}
use Rattle.records.specs.declared.Record.TheVariants.{Copy, Take, Put, Fill, Whole}
use Rattle.records.specs.Records.{even_byte}

-- elements past the matrix
abbrev pub elements_ok : MatrixType → ℕ → ℕ → Bool
elements_ok t first count = leb (first + count) (t.rows * t.columns)

-- element first+i is at byte+i*step, with a step of up - down: over the integers, below 0 before memory begins
abbrev pub signed_byte : ℕ → ℕ → ℕ → ℕ → ℤ
signed_byte byte up down i = even_byte byte (difference up down) i

-- as a place in memory
unfoldable pub byte_at : ℕ → ℕ → ℕ → ℕ → ℕ
byte_at byte up down i = rise (signed_byte byte up down i)

-- all of its bytes lie in memory
unfoldable pub byte_inside : ℕ → ℕ → ℕ → ℕ → ℕ → ℕ → Bool
byte_inside size len byte up down i = both (at_least 0 (signed_byte byte up down i)) (leb (byte_at byte up down i + size) len)

-- any byte outside memory
abbrev pub bytes_inside : ℕ → ℕ → ℕ → ℕ → ℕ → ℕ → Bool
bytes_inside size len count byte up down = all count (byte_inside size len byte up down)

-- take and put read their register, which is not empty
unfoldable pub bytes_record_ok : MatrixType → ℕ → ℕ → ℕ → ℕ → ℕ → ℕ → Bool
bytes_record_ok t len first count byte up down =
    both (not (is_empty t)) (both (elements_ok t first count) (bytes_inside (bytes_of t.kind) len count byte up down))

-- so does fill, whose value is not too wide for its kind
unfoldable pub fill_record_ok : MatrixType → ℕ → ℕ → ℕ → Bool
fill_record_ok t first count value = both (not (is_empty t)) (both (elements_ok t first count) (fits t.kind value))

-- op 4 names a whole step that would not be refused
abbrev pub whole_clear : ℕ → List MatrixType → ℕ → Step → Bool
whole_clear edition ts len Nothing = false
whole_clear edition ts len (Load register object window) = false
whole_clear edition ts len (Store register window) = false
whole_clear edition ts len (step.Whole whole) = eqb (whole_refusal edition ts len whole).number 0

-- .. and one of so many that the sheet has
unfoldable pub whole_record_ok : ℕ → ℕ → List MatrixType → ℕ → Step → ℕ → Bool
whole_record_ok edition steps ts len named k = both (ltb k steps) (whole_clear edition ts len named)

-- the number of the step that a record names; only op 4 names one
abbrev pub step_named : Record → ℕ
step_named (Copy register object) = 0
step_named (Take register first count byte up down) = 0
step_named (Put register first count byte up down) = 0
step_named (Fill register first count value) = 0
step_named (Whole k) = k

-- a step by its number, nothing where the sheet has no such step: what the code looks up
unfoldable pub step_of : Sheet → ℕ → Step
step_of sh k = pick (ltb k sh.steps) (the_step sh.step k) Nothing

abbrev pub record_step : Sheet → Record → Step
record_step sh (Copy register object) = Nothing
record_step sh (Take register first count byte up down) = Nothing
record_step sh (Put register first count byte up down) = Nothing
record_step sh (Fill register first count value) = Nothing
record_step sh (Whole k) = step_of sh k

-- what of refusal 17 depends on registers, memory and sheet: its edition, how many steps it has, and the step that the record names
abbrev pub record_ok_with : ℕ → ℕ → List MatrixType → ℕ → Step → Record → Bool
record_ok_with edition steps ts len named (Copy register object) = not (is_empty (the_type ts object))
record_ok_with edition steps ts len named (Take register first count byte up down) = bytes_record_ok (the_type ts register) len first count byte up down
record_ok_with edition steps ts len named (Put register first count byte up down) = bytes_record_ok (the_type ts register) len first count byte up down
record_ok_with edition steps ts len named (Fill register first count value) = fill_record_ok (the_type ts register) first count value
record_ok_with edition steps ts len named (Whole k) = whole_record_ok edition steps ts len named k

abbrev pub record_ok : Sheet → List MatrixType → ℕ → Record → Bool
record_ok sh ts len r = record_ok_with sh.edition sh.steps ts len (the_step sh.step (step_named r)) r

-- the types that a record leaves, with the step that it names
abbrev pub record_types_with : List MatrixType → Step → Record → List MatrixType
record_types_with ts named (Copy register object) = with_type ts register (the_type ts object)
record_types_with ts named (Take register first count byte up down) = ts
record_types_with ts named (Put register first count byte up down) = ts
record_types_with ts named (Fill register first count value) = ts
record_types_with ts named (Whole k) = step_types ts named

abbrev pub record_types : Sheet → List MatrixType → Record → List MatrixType
record_types sh ts r = record_types_with ts (the_step sh.step (step_named r)) r
