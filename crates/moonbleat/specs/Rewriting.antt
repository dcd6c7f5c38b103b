-- A sheet read, and what was read written.
use Rattle.std.specs.Prelude.{ℕ, List, eqb}
use Rattle.numbers.specs.Choice.{pick}
use Rattle.sheet_reader.specs.Reading.{read_sheet}
use Rattle.sheet_writer.specs.Writing.{written, written_room}
use Rattle.sheet_writer.specs.declared.WriteAnswer.{WriteAnswer}

-- into a room of so many bytes
unfoldable pub rewritten : List ℕ → ℕ → WriteAnswer
rewritten s room =
    pick (eqb (read_sheet s).refusal.number 0)
    (written (read_sheet s).sheet room)
    (record { refusal = (read_sheet s).refusal; bytes = 0 })

-- the room afterwards: unchanged where the sheet is refused
unfoldable pub rewritten_room : List ℕ → List ℕ → List ℕ
rewritten_room s out = pick (eqb (read_sheet s).refusal.number 0) (written_room (read_sheet s).sheet out) out
