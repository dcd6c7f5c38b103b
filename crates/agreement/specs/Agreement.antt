-- What agreement of a tape and its sheet means: demand 3.
use Rattle.std.specs.Prelude.{ℕ, ◌≡◌, List, ℤ, length}
use Rattle.sheet.specs.declared.Sheet.{Sheet}
use Rattle.refusals.specs.Refusals.{not_refused}
use Rattle.carrying.specs.Carrying.{performed, started, carried, carried_memory}
use Rattle.records.specs.declared.Decoded.{Decoded}
use Rattle.judging.specs.Judging.{tape_record, range_refusal, tape_refusal}
use Rattle.running.specs.Running.{ran, run_tape, ran_memory}

-- n records of a tape, as they are decoded, are not refused, and leave what the steps of the sheet leave
pub record Agrees (sh : Sheet) (memory : List ℕ) (n : ℕ) (the : ℕ → Decoded) : Type 0 where
  pub accepted : range_refusal n sh (length memory) the ≡ not_refused
  pub same : ran n sh the (started memory) ≡ performed sh (started memory)

-- the same of the first n records that the numbers of a slice say
pub record NumbersAgree (sh : Sheet) (memory : List ℕ) (n : ℕ) (numbers : List ℤ) : Type 0 where
  pub accepted : tape_refusal sh numbers n (length memory) ≡ not_refused
  pub same : ran n sh (tape_record numbers) (started memory) ≡ performed sh (started memory)

-- running so many records of a tape answers as carrying out the sheet does, and leaves the same memory
pub record RunsAsCarried (s memory : List ℕ) (tape : List ℤ) (records : ℕ) : Type 0 where
  pub answer : run_tape s tape records memory ≡ carried s memory
  pub bytes : ran_memory s tape records memory ≡ carried_memory s memory
