-- Running a tape with its sheet: 18, the sheet's reading, then 17 only.
use Rattle.std.specs.Prelude.{ℕ, zero, suc, ◌+◌, List, ℤ, length, leb, eqb}
use Rattle.numbers.specs.Choice.{pick}
use Rattle.sheet.specs.Sizes.{memory_limit}
use Rattle.sheet.specs.declared.Tensors.{Tensors}
use Rattle.sheet.specs.declared.Sheet.{Sheet}
use Rattle.sheet.specs.declared.Step.{Step}
use Rattle.refusals.specs.declared.Refusal.{Refusal}
use Rattle.sheet_reader.specs.Reading.{read_sheet}
use Rattle.registers.specs.Registers.{empty_registers}
use Rattle.refusals.specs.Refusals.{memory_too_large, refusal_at, not_refused}
use Rattle.counts.specs.Counts.{no_counts}
use Rattle.carrying.specs.Steps.{Machine}
use Rattle.carrying.specs.Carrying.{started, CarriedOut, carry_answer}
use Rattle.records.specs.declared.Decoded.{Decoded}
use Rattle.records.specs.declared.Decoded.TheVariants.{Good, Bad}
use Rattle.judging.specs.Judging.{tape_record, tape_refusal}
use Rattle.running.specs.Records.{ran_record_with, ran_record}

abbrev pub ran_decoded_with : Tensors → Step → Decoded → Machine → Machine
ran_decoded_with tensors named (Good r) m = ran_record_with tensors named r m
ran_decoded_with tensors named Bad m = m

abbrev pub ran_decoded : Sheet → Decoded → Machine → Machine
ran_decoded sh (Good r) m = ran_record sh r m
ran_decoded sh Bad m = m

-- n records more, the next of which is number k, each on what the last one left
unfoldable pub ran_from : ℕ → Sheet → (ℕ → Decoded) → ℕ → Machine → Machine
ran_from zero sh the k m = m
ran_from (suc n) sh the k m = ran_from n sh the (k + 1) (ran_decoded sh (the k) m)

-- all records, in order
abbrev pub ran : ℕ → Sheet → (ℕ → Decoded) → Machine → Machine
ran n sh the m = ran_from n sh the 0 m

-- 18 first, then reading's 1 to 6, then 17
unfoldable pub run_refusal : List ℕ → List ℤ → ℕ → ℕ → Refusal
run_refusal s tape records len =
    pick (leb len memory_limit)
    (pick (eqb (read_sheet s).refusal.number 0) (tape_refusal (read_sheet s).sheet tape records len) (read_sheet s).refusal)
    (refusal_at memory_too_large 0 0)

-- refused: empty registers and nothing counted; accepted: what the records leave
unfoldable pub run_tape : List ℕ → List ℤ → ℕ → List ℕ → CarriedOut
run_tape s tape records memory =
    let r = run_refusal s tape records (length memory) in
    pick (eqb r.number 0)
    (let m = ran records (read_sheet s).sheet (tape_record tape) (started memory) in carry_answer not_refused m.registers m.counts)
    (carry_answer r empty_registers no_counts)

-- memory afterwards: unchanged where the tape is refused
unfoldable pub ran_memory : List ℕ → List ℤ → ℕ → List ℕ → List ℕ
ran_memory s tape records memory =
    pick (eqb (run_refusal s tape records (length memory)).number 0)
    (ran records (read_sheet s).sheet (tape_record tape) (started memory)).memory
    memory
