-- Which tapes are refused with 17, and at which record.
use Rattle.std.specs.Prelude.{ℕ, zero, suc, ◌+◌, ◌*◌, List, Bool, false, ℤ, length}
use Rattle.numbers.specs.Choice.{pick}
use Rattle.sheet.specs.declared.Sheet.{Sheet}
use Rattle.sheet.specs.declared.Step.{Step}
use Rattle.sheet.specs.declared.Step.TheVariants.{Nothing}
use Rattle.refusals.specs.Refusals.{record_out_of_range, refusal_at, not_refused}
use Rattle.refusals.specs.declared.Refusal.{Refusal}
use Rattle.registers.specs.Registers.{empty_registers}
use Rattle.registers.specs.declared.MatrixType.{MatrixType}
use Rattle.records.specs.Records.{record_length, record_at}
use Rattle.records.specs.declared.Decoded.{Decoded}
use Rattle.records.specs.declared.Decoded.TheVariants.{Good, Bad}
use Rattle.records.specs.Room.{records_fit}
use Rattle.judging.specs.Records.{record_step, record_ok_with, record_ok, record_types_with, record_types}

-- record k of a tape, by its six numbers
abbrev pub tape_record : List ℤ → ℕ → Decoded
tape_record tape k = record_at tape (k * record_length)

-- the step of a sheet that it names, or nothing
abbrev pub decoded_step : Sheet → Decoded → Step
decoded_step sh (Good r) = record_step sh r
decoded_step sh Bad = Nothing

-- six numbers that say no record are out of range
abbrev pub decoded_ok_with : ℕ → ℕ → List MatrixType → ℕ → Step → Decoded → Bool
decoded_ok_with edition steps ts len named (Good r) = record_ok_with edition steps ts len named r
decoded_ok_with edition steps ts len named Bad = false

abbrev pub decoded_types_with : List MatrixType → Step → Decoded → List MatrixType
decoded_types_with ts named (Good r) = record_types_with ts named r
decoded_types_with ts named Bad = ts

abbrev pub decoded_ok : Sheet → List MatrixType → ℕ → Decoded → Bool
decoded_ok sh ts len (Good r) = record_ok sh ts len r
decoded_ok sh ts len Bad = false

abbrev pub decoded_types : Sheet → List MatrixType → Decoded → List MatrixType
decoded_types sh ts (Good r) = record_types sh ts r
decoded_types sh ts Bad = ts

-- n records more, the next of which is number k: out of range at the first such record
unfoldable pub range_from : ℕ → Sheet → ℕ → (ℕ → Decoded) → ℕ → List MatrixType → Refusal
range_from zero sh len the k ts = not_refused
range_from (suc n) sh len the k ts =
    pick (decoded_ok sh ts len (the k))
    (range_from n sh len the (k + 1) (decoded_types sh ts (the k)))
    (refusal_at record_out_of_range k 0)

-- all records, from empty registers
abbrev pub range_refusal : ℕ → Sheet → ℕ → (ℕ → Decoded) → Refusal
range_refusal n sh len the = range_from n sh len the 0 empty_registers.types

-- a record count above the limit or past the slice has place 0
unfoldable pub tape_refusal : Sheet → List ℤ → ℕ → ℕ → Refusal
tape_refusal sh tape records len =
    pick (records_fit sh.edition (length tape) records)
    (range_refusal records sh len (tape_record tape))
    (refusal_at record_out_of_range 0 0)
