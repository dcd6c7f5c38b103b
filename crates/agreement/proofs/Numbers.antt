-- A sheet's tape as the numbers of a slice, with any numbers after them.
use Rattle.std.specs.Prelude.{ℕ, ◌+◌, ◌*◌, ◌≤◌, ◌≡◌, true, List, ◌++◌, ℤ}
use Rattle.std.proofs.Math.Path.{ap}
use Rattle.std.proofs.Common.{◌∙◌, zero-add, arith, le-leb}
use Rattle.std.proofs.Math.ListN.{length, length-append}
use Rattle.numbers.specs.Laws.Choice.{both_true}
use Rattle.sheet.specs.Sizes.{memory_limit}
use Rattle.sheet.specs.declared.Sheet.{Sheet}
use Rattle.sheet.specs.Editions.{limits}
use Rattle.sheet_ranges.specs.Laws.Within.{Within}
use Rattle.checking.specs.Checking.{checked}
use Rattle.records.specs.Records.{record_length, tape_numbers}
use Rattle.records.specs.Laws.Records.{tape_back, length_tape}
use Rattle.records.specs.Room.{records_fit}
use Rattle.translating.specs.Tapes.{tape_of}
use Rattle.judging.specs.Judging.{tape_record}
use Rattle.agreement.specs.Laws.Passing.{Says}
use Rattle.agreement.specs.Laws.Ranges.{tape_within}

module _ (sh : Sheet) (w : Within sh) (memory : List ℕ) (h : (checked sh (length memory)).refusal.number ≡ 0) (most : length memory ≤ memory_limit)
    (numbers rest : List ℤ) (is : numbers ≡ tape_numbers (tape_of sh (length memory)) ++ rest) where
  pub numbers_say : Says (tape_record numbers) 0 (tape_of sh (length memory))
  numbers_say i l = rw (is, zero-add i) (tape_back (tape_of sh (length memory)) rest i (tape_within (length memory) most sh w h) l)

module _ (sh : Sheet) (memory : List ℕ) (few : length (tape_of sh (length memory)) ≤ (limits sh.edition).records)
    (numbers rest : List ℤ) (is : numbers ≡ tape_numbers (tape_of sh (length memory)) ++ rest) where
  pub numbers_fit : records_fit sh.edition (length numbers) (length (tape_of sh (length memory))) ≡ true
  unfolding records_fit
  numbers_fit =
      let n = length (tape_of sh (length memory)) in
      let long : length numbers ≡ n * record_length + length rest =
      ap length is ∙ length-append (tape_numbers (tape_of sh (length memory))) rest ∙ rw (length_tape (tape_of sh (length memory))) in
      both_true _ _ (le-leb n (limits sh.edition).records few) (le-leb (n * record_length) (length numbers) (omega arith))
