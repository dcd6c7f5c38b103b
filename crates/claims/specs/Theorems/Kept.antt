-- A refusal leaves every lent slice as it was.
use Rattle.std.specs.Prelude.{ℕ, ◌<◌, ◌≡◌, refl, false, List, eqb, ltb, leb, ℤ, length}
use Rattle.std.proofs.Common.{arith}
use Rattle.numbers.specs.Choice.{pick, both}
use Rattle.numbers.specs.Laws.Choice.{by_test}
use Rattle.sheet.specs.declared.Sheet.{Sheet}
use Rattle.sheet_ranges.specs.Sheets.{writable}
use Rattle.sheet_reader.specs.Reading.{read_sheet}
use Rattle.sheet_writer.specs.Bytes.{sheet_bytes}
use Rattle.sheet_writer.specs.Writing.{written, written_room}
use Rattle.checking.specs.Checking.{checked_sheet}
use Rattle.carrying.specs.Carrying.{carried, carried_memory}
use Rattle.translating.specs.Translating.{fits_room, translated, translates, translated_room, translated_masks}
use Rattle.running.specs.Running.{run_refusal, run_tape, ran_memory}
use Rattle.tracing.specs.Tracing.{traced_length, traced, traced_room}
use Rattle.moonbleat.specs.Rewriting.{rewritten, rewritten_room}

-- no refusal
none : 0 < 0 → ⊥
none h = omega (arith, h)

-- of writing: the room
pub writing_kept : (sh : Sheet) (out : List ℕ) → 0 < (written sh (length out)).refusal.number → written_room sh out ≡ out
unfolding written written_room pick
writing_kept sh out r =
    by_test (writable sh)
    (λ e. by_test (leb (length (sheet_bytes sh)) (length out)) (λ f. absurd (none (rw (e, f) at r))) (λ f. rw (e, f) refl))
    (λ e. rw e refl)

-- of carrying out: the memory
pub carrying_kept : (s memory : List ℕ) → 0 < (carried s memory).refusal.number → carried_memory s memory ≡ memory
unfolding carried carried_memory pick
carrying_kept s memory r =
    by_test (eqb (checked_sheet s (length memory)).refusal.number 0) (λ e. absurd (none (rw e at r))) (λ e. rw e refl)

-- of translating: the tape and the masks
module _ (s : List ℕ) (len room area : ℕ) where
  not_translated : 0 < (translated s len room area).refusal.number → translates s len room area ≡ false
  unfolding translated translates both pick
  not_translated r =
      by_test (eqb (checked_sheet s len).refusal.number 0)
      (λ e. by_test (fits_room s len room area) (λ f. absurd (none (rw (e, f) at r))) (λ f. rw (e, f) refl))
      (λ e. rw e refl)

pub translating_kept : (s : List ℕ) (len : ℕ) (tape : List ℤ) (area : ℕ) → 0 < (translated s len (length tape) area).refusal.number → translated_room s len tape area ≡ tape
unfolding translated_room pick
translating_kept s len tape area r = rw (not_translated s len (length tape) area r) refl

pub masks_kept : (s : List ℕ) (len room : ℕ) (masks : List ℕ) → 0 < (translated s len room (length masks)).refusal.number → translated_masks s len room masks ≡ masks
unfolding translated_masks pick
masks_kept s len room masks r = rw (not_translated s len room (length masks) r) refl

-- of running: the memory
pub running_kept : (s : List ℕ) (tape : List ℤ) (records : ℕ) (memory : List ℕ) → 0 < (run_tape s tape records memory).refusal.number → ran_memory s tape records memory ≡ memory
unfolding run_tape ran_memory pick
running_kept s tape records memory r =
    by_test (eqb (run_refusal s tape records (length memory)).number 0) (λ e. absurd (none (rw e at r))) (λ e. rw e refl)

-- of tracing: the room
pub tracing_kept : (s : List ℕ) (len : ℕ) (out : List ℕ) → 0 < (traced s len (length out)).refusal.number → traced_room s len out ≡ out
unfolding traced traced_room pick
tracing_kept s len out r =
    by_test (eqb (checked_sheet s len).refusal.number 0)
    (λ e. by_test (ltb (length out) (traced_length s len)) (λ f. rw (e, f) refl) (λ f. absurd (none (rw (e, f) at r))))
    (λ e. rw e refl)

-- of reading and writing back: the room
pub rewriting_kept : (s out : List ℕ) → 0 < (rewritten s (length out)).refusal.number → rewritten_room s out ≡ out
unfolding rewritten rewritten_room pick
rewriting_kept s out r =
    by_test (eqb (read_sheet s).refusal.number 0) (λ e. rw e (writing_kept (read_sheet s).sheet out (rw e at r))) (λ e. rw e refl)
