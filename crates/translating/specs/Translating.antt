-- Translating a sheet for a memory of a length: 18 and 1 to 15 as the check gives them, then 16, else the tape and the masks beside it.
use Rattle.std.specs.Prelude.{ℕ, List, Bool, ℤ, length, eqb, leb}
use Rattle.std.proofs.lemmas.List.Edits.{sets}
use Rattle.numbers.specs.Choice.{pick, both}
use Rattle.refusals.specs.Refusals.{tape_too_long, refusal_at, not_refused}
use Rattle.refusals.specs.declared.Refusal.{Refusal}
use Rattle.sheet_reader.specs.Reading.{read_sheet}
use Rattle.checking.specs.Checking.{checked_sheet}
use Rattle.records.specs.Records.{tape_numbers}
use Rattle.records.specs.Room.{records_fit}
use Rattle.masks.specs.Masks.{mask_area}
use Rattle.translating.specs.Tapes.{tape_of}
use Rattle.translating.specs.Masks.{sheet_masks}
use Rattle.translating.specs.declared.TranslateAnswer.{TranslateAnswer}

abbrev pub translate_answer : Refusal → ℕ → ℕ → TranslateAnswer
translate_answer r count records = record { refusal = r; count = count; records = records }

-- whether what a sheet becomes has room: its records in so many numbers, then the masks of all steps in so many bytes
unfoldable pub fits_room : List ℕ → ℕ → ℕ → ℕ → Bool
fits_room s len room area =
    both (records_fit (read_sheet s).sheet.edition room (length (tape_of (read_sheet s).sheet len))) (leb mask_area area)

unfoldable pub translated : List ℕ → ℕ → ℕ → ℕ → TranslateAnswer
translated s len room area =
    let c = checked_sheet s len in
    pick (eqb c.refusal.number 0)
    (pick (fits_room s len room area)
    (translate_answer not_refused c.count (length (tape_of (read_sheet s).sheet len)))
    (translate_answer (refusal_at tape_too_long 0 0) 0 0))
    (translate_answer c.refusal 0 0)

-- whether a sheet is translated: its check accepts it, and there is room
unfoldable pub translates : List ℕ → ℕ → ℕ → ℕ → Bool
translates s len room area = both (eqb (checked_sheet s len).refusal.number 0) (fits_room s len room area)

-- the tape afterwards: its numbers from the start of the room on, and every number past them as it was; unchanged where the sheet is refused
unfoldable pub translated_room : List ℕ → ℕ → List ℤ → ℕ → List ℤ
translated_room s len tape area =
    pick (translates s len (length tape) area) (sets tape 0 (tape_numbers (tape_of (read_sheet s).sheet len))) tape

-- the mask area afterwards: the masks of all steps, and every byte past them as it was; unchanged where the sheet is refused
unfoldable pub translated_masks : List ℕ → ℕ → ℕ → List ℕ → List ℕ
translated_masks s len room masks =
    pick (translates s len room (length masks)) (sets masks 0 (sheet_masks (read_sheet s).sheet len)) masks
