-- Demand 3 over what the public routines are stated by: where a sheet is translated, running the numbers that were written gives what
-- carrying out the sheet gives, in its answer and in memory.
use Rattle.std.specs.Prelude.{ℕ, ◌≤◌, ◌≡◌, List, ◌++◌, ℤ, length, drop}
use Rattle.std.proofs.Common.{ap, ◌∙◌, zero-add}
use borrow.Author.Tests.{leb-true, le-leb, eq-eqb}
use Rattle.std.proofs.lemmas.List.Edits.{sets-eq}
use Rattle.numbers.specs.Choice.{pick}
use Rattle.numbers.specs.Laws.Choice.{both_left}
use Rattle.sheet.specs.Sizes.{memory_limit}
use Rattle.sheet.specs.declared.Sheet.{Sheet}
use Rattle.sheet.specs.Editions.{limits}
use Rattle.sheet_reader.specs.Reading.{read_sheet}
use Rattle.refusals.specs.Refusals.{not_refused}
use Rattle.checking.specs.Laws.Readable.{Readable, sheet_readable}
use Rattle.carrying.specs.Steps.{Machine}
use Rattle.carrying.specs.Carrying.{carry_answer, carried, carried_memory}
use Rattle.records.specs.Records.{tape_numbers}
use Rattle.records.specs.Laws.Records.{length_tape, fit_room}
use Rattle.records.specs.Room.{records_fit}
use Rattle.translating.specs.Tapes.{tape_of}
use Rattle.translating.specs.Translating.{fits_room, translated, translated_room}
use Rattle.translating.proofs.Theorems.Translated.{Translated, told, room_is}
use Rattle.running.specs.Running.{run_refusal, run_tape, ran_memory}
use Rattle.agreement.specs.Agreement.{NumbersAgree, RunsAsCarried}
use Rattle.agreement.proofs.Theorems.Agreement.{agreement_numbers}

module _ (s memory : List ℕ) (room : List ℤ) (area : ℕ) (h : (translated s (length memory) (length room) area).refusal.number ≡ 0) where
  abbrev sh : Sheet
  sh = (read_sheet s).sheet

  abbrev numbers : List ℤ
  numbers = translated_room s (length memory) room area

  abbrev written : List ℤ
  written = tape_numbers (tape_of sh (length memory))

  -- past what was written the room is as it was
  abbrev rest : List ℤ
  rest = drop (length written) room

  translation : Translated s (length memory) (length room) area (translated s (length memory) (length room) area)
  translation = told s (length memory) (length room) area h

  accepted : Readable s (length memory)
  accepted = sheet_readable s (length memory) translation.accepted

  few : length (tape_of sh (length memory)) ≤ (limits sh.edition).records
  unfolding fits_room records_fit
  few = leb-true _ _ (both_left _ _ (both_left _ _ translation.fits))

  long : length written ≤ length room
  unfolding fits_room
  long = rw (length_tape (tape_of sh (length memory))) (fit_room _ _ _ (both_left _ _ translation.fits))

  numbers_are : numbers ≡ written ++ rest
  numbers_are =
      room_is s (length memory) room area h ∙ sets-eq written room 0 (rw (zero-add (length written)) long) ∙ rw (zero-add (length written))

  agrees : NumbersAgree sh memory (length (tape_of sh (length memory))) numbers
  agrees = agreement_numbers sh accepted.within memory accepted.clear accepted.few few numbers rest numbers_are

  run_accepted : run_refusal s numbers (length (tape_of sh (length memory))) (length memory) ≡ not_refused
  unfolding run_refusal pick
  run_accepted = rw (le-leb (length memory) memory_limit accepted.few, eq-eqb (read_sheet s).refusal.number 0 accepted.read) agrees.accepted

  runs_as_carried : RunsAsCarried s memory numbers (length (tape_of sh (length memory)))
  unfolding run_tape ran_memory carried carried_memory pick
  runs_as_carried =
      record {
        answer =
            rw (run_accepted, translation.accepted)
            (ap (λ (m : Machine). carry_answer (not_refused) m.registers m.counts) agrees.same);
        bytes = rw (run_accepted, translation.accepted) (ap (λ (m : Machine). m.memory) agrees.same);
      }

  -- Where translating is not refused, what it wrote runs as the sheet is carried out.
  pub translated_runs : RunsAsCarried s memory (translated_room s (length memory) room area) (translated s (length memory) (length room) area).records
  translated_runs = rw translation.records runs_as_carried
