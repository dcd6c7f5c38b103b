-- What the header says of the functions, beyond their statements.
use Rattle.std.specs.Prelude.{ℕ, ◌≤◌, ◌≡◌, List, length}
use borrow.Author.Tests.{eq-eqb, le-leb}
use Rattle.std.proofs.lemmas.List.Edits.{sets}
use Rattle.numbers.specs.Choice.{pick}
use Rattle.numbers.specs.Bytes.{AreBytes}
use Rattle.sheet_reader.specs.Reading.{read_sheet}
use Rattle.sheet_writer.specs.Writing.{write_answer, written, written_room}
use Rattle.sheet_reader.specs.Laws.Growing.{not_refused_lem}
use Rattle.round_trip.proofs.Theorems.{WritesBack, read_writes_back}
use Rattle.moonbleat.specs.Rewriting.{rewritten, rewritten_room}

-- A sheet that is read and for which there is room is rewritten byte for byte, and its byte count is its length.
module _ (s : List ℕ) (b : AreBytes s) (e : (read_sheet s).refusal.number ≡ 0) where
  back : WritesBack s (read_sheet s).sheet
  back = read_writes_back s (read_sheet s).sheet b (not_refused_lem s e)

  pub rewritten_count : (room : ℕ) → length s ≤ room → rewritten s room ≡ write_answer 0 (length s)
  unfolding rewritten written pick
  rewritten_count room h = rw (eq-eqb (read_sheet s).refusal.number 0 e, back.allowed, back.same, le-leb (length s) room h)

  pub rewritten_same : (out : List ℕ) → length s ≤ length out → rewritten_room s out ≡ sets out 0 s
  unfolding rewritten_room written_room pick
  rewritten_same out h = rw (eq-eqb (read_sheet s).refusal.number 0 e, back.allowed, back.same, le-leb (length s) (length out) h)
