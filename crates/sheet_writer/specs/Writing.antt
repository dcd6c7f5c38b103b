-- The writer: 5 for a model that no sheet reads as, then 19 if the room is too short, each with place 0; else the sheet's bytes.
use Rattle.std.specs.Prelude.{ℕ, List, length, leb}
use Rattle.std.proofs.lemmas.List.Edits.{sets}
use Rattle.numbers.specs.Choice.{pick}
use Rattle.refusals.specs.Refusals.{beyond_sizes, room_too_short, refusal_at}
use Rattle.sheet_ranges.specs.Sheets.{writable}
use Rattle.sheet.specs.declared.Sheet.{Sheet}
use Rattle.sheet_writer.specs.Bytes.{sheet_bytes}
use Rattle.sheet_writer.specs.declared.WriteAnswer.{WriteAnswer}

-- a refusal's number, or 0 with the count of bytes written
abbrev pub write_answer : ℕ → ℕ → WriteAnswer
write_answer number bytes = record { refusal = refusal_at number 0 0; bytes = bytes }

unfoldable pub written : Sheet → ℕ → WriteAnswer
written sh room =
    pick (writable sh)
    (pick (leb (length (sheet_bytes sh)) room)
    (write_answer 0 (length (sheet_bytes sh)))
    (write_answer room_too_short 0))
    (write_answer beyond_sizes 0)

-- the room afterwards: the sheet's bytes from its start on, and every byte past them as it was
unfoldable pub written_room : Sheet → List ℕ → List ℕ
written_room sh out =
    pick (writable sh)
    (pick (leb (length (sheet_bytes sh)) (length out))
    (sets out 0 (sheet_bytes sh))
    out)
    out
