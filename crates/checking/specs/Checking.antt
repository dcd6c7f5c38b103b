-- The check of a sheet for a memory of a length: 18, reading's 1 to 6, then 7 to 15.
use Rattle.std.specs.Prelude.{ℕ, zero, suc, ◌+◌, List, eqb, leb}
use Rattle.numbers.specs.Choice.{pick}
use Rattle.sheet.specs.Sizes.{memory_limit}
use Rattle.sheet_ranges.specs.Steps.{the_step}
use Rattle.sheet_ranges.specs.Sheets.{empty_sheet}
use Rattle.sheet.specs.declared.Sheet.{Sheet}
use Rattle.refusals.specs.Refusals.{memory_too_large, refusal_at, not_refused}
use Rattle.refusals.specs.declared.Refusal.{Refusal}
use Rattle.sheet_reader.specs.Reading.{read_sheet}
use Rattle.sheet_reader.specs.declared.ReadAnswer.{ReadAnswer}
use Rattle.registers.specs.Registers.{empty_registers}
use Rattle.registers.specs.declared.MatrixType.{MatrixType}
use Rattle.checking.specs.Steps.{checked_step}
use Rattle.checking.specs.declared.CheckAnswer.{CheckAnswer}

abbrev pub check_refused : Refusal → CheckAnswer
check_refused r = record { refusal = r; count = 0 }

-- n steps more, the next of which is number k, from the types and the count that the steps before left
unfoldable pub checked_from : ℕ → Sheet → ℕ → ℕ → List MatrixType → ℕ → CheckAnswer
checked_from zero sh len k ts count = record { refusal = not_refused; count = count }
checked_from (suc n) sh len k ts count =
    let c = checked_step sh.edition sh.tensors ts len (the_step sh.step k) in
    pick (eqb c.stop.number 0)
    (checked_from n sh len (k + 1) c.types (count + c.placed))
    (check_refused (refusal_at c.stop.number k c.stop.element))

-- refusals 7 to 15, step by step, from empty registers
unfoldable pub checked : Sheet → ℕ → CheckAnswer
checked sh len = checked_from sh.steps sh len 0 empty_registers.types 0

-- 18 first, then reading's 1 to 6: with a refusal there is an empty sheet
unfoldable pub admitted : List ℕ → ℕ → ReadAnswer
admitted s len = pick (leb len memory_limit) (read_sheet s) (record { refusal = refusal_at memory_too_large 0 0; sheet = empty_sheet })

-- 18 first, then reading's 1 to 6, then the steps
unfoldable pub checked_sheet : List ℕ → ℕ → CheckAnswer
checked_sheet s len =
    pick (leb len memory_limit)
    (pick (eqb (read_sheet s).refusal.number 0)
    (checked (read_sheet s).sheet len)
    (check_refused (read_sheet s).refusal))
    (check_refused (refusal_at memory_too_large 0 0))
