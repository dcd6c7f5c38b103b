-- Demand 3: for every sheet within Sizes, and every memory for which it is accepted, its tape is not refused, and running it leaves
-- what carrying out the sheet leaves: every byte, every register, and what is counted.
use Rattle.std.specs.Prelude.{ℕ, ◌+◌, ◌*◌, ◌≤◌, ◌≡◌, true, List, ◌++◌, ℤ, get_or}
use Rattle.std.proofs.Math.Path.{sym, ap}
use Rattle.std.proofs.Common.{◌∙◌, zero-add, arith, le-leb}
use Rattle.std.proofs.Math.ListN.{length, length-append}
use Rattle.numbers.specs.Laws.Choice.{both_true, taken}
use Rattle.sheet.specs.Sizes.{memory_limit}
use Rattle.sheet.specs.declared.Sheet.{Sheet}
use Rattle.sheet.specs.Editions.{limits}
use Rattle.sheet_ranges.specs.Laws.Within.{Within}
use Rattle.checking.specs.Checking.{checked}
use Rattle.carrying.specs.Carrying.{performed, started}
use Rattle.carrying.specs.Laws.Types.{started_formed}
use Rattle.records.specs.declared.Record.TheVariants.{Whole}
use Rattle.records.specs.declared.Decoded.{Decoded}
use Rattle.records.specs.declared.Decoded.TheVariants.{Good}
use Rattle.records.specs.Records.{record_length, tape_numbers}
use Rattle.records.specs.Laws.Records.{tape_back, length_tape}
use Rattle.records.specs.Room.{records_fit}
use Rattle.translating.specs.Tapes.{tape_of}
use Rattle.judging.specs.Judging.{tape_record, tape_refusal}
use Rattle.agreement.specs.Laws.Passing.{Says, passes_range, ran_list}
use Rattle.agreement.proofs.Numbers.{numbers_say, numbers_fit}
use Rattle.agreement.specs.Agreement.{Agrees, NumbersAgree}
use Rattle.agreement.specs.Laws.Steps.{Agree, from_agree}

module _ (sh : Sheet) (w : Within sh) (memory : List ℕ) (h : (checked sh (length memory)).refusal.number ≡ 0) where
  -- whatever gives the records of the sheet's tape, by their numbers
  pub agrees : (the : ℕ → Decoded) → Says the 0 (tape_of sh (length memory)) → Agrees sh memory (length (tape_of sh (length memory))) the
  unfolding tape_of checked performed
  agrees the s =
      let a : Agree sh.steps sh 0 (started memory) = from_agree sh w sh.steps 0 (started memory) 0 (omega arith) h (started_formed memory) in
      record {
        accepted = passes_range sh the 0 s a.passes;
        same = ran_list sh the (tape_of sh (length memory)) 0 (started memory) s ∙ a.same;
      }

  -- Agreement: the tape of an accepted sheet, record by record, however long the tape and the memory are.
  pub agreement : Agrees sh memory (length (tape_of sh (length memory))) (λ (k : ℕ). Good (get_or (tape_of sh (length memory)) k (Whole 0)))
  agreement = agrees (λ (k : ℕ). Good (get_or (tape_of sh (length memory)) k (Whole 0))) (λ i l. rw (zero-add i))

  -- Agreement over numbers: the tape of an accepted sheet as the numbers of a slice, six a record, with any numbers after them;
  -- memory's limit keeps the numbers in their ranges, and a record count above its limit is refused.
  module _ (most : length memory ≤ memory_limit) (few : length (tape_of sh (length memory)) ≤ (limits sh.edition).records) (numbers rest : List ℤ)
      (is : numbers ≡ tape_numbers (tape_of sh (length memory)) ++ rest) where
    pub agreement_numbers : NumbersAgree sh memory (length (tape_of sh (length memory))) numbers
    unfolding tape_refusal
    agreement_numbers =
        let a = agrees (tape_record numbers) (numbers_say sh w memory h most numbers rest is) in
        record { accepted = sym (taken _ (numbers_fit sh memory few numbers rest is) (sym a.accepted)); same = a.same }
