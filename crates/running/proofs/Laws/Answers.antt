-- Which answer a tape gets, by the ways that the code takes.
use Rattle.std.specs.Prelude.{ℕ, ◌<◌, ◌≡◌, List, ℤ, length}
use Rattle.std.proofs.Common.{arith}
use borrow.Author.Tests.{le-leb, lt-leb, eq-eqb, ne_eqb}
use Rattle.sheet.specs.Sizes.{memory_limit}
use Rattle.numbers.specs.Choice.{pick}
use Rattle.numbers.specs.Laws.Choice.{by_order}
use Rattle.refusals.specs.declared.Refusal.{Refusal}
use Rattle.sheet_reader.specs.Reading.{read_sheet}
use Rattle.registers.specs.Registers.{empty_registers}
use Rattle.registers.specs.declared.Registers.{Registers}
use Rattle.refusals.specs.Refusals.{memory_too_large, not_refused}
use Rattle.counts.specs.Counts.{no_counts}
use Rattle.counts.specs.declared.Counts.{Counts}
use Rattle.checking.specs.Checking.{admitted}
use Rattle.carrying.specs.Steps.{machine}
use Rattle.carrying.specs.Carrying.{started, carry_answer}
use Rattle.judging.specs.Judging.{tape_record, tape_refusal}
use Rattle.running.specs.Running.{ran, run_refusal, run_tape, ran_memory}

module _ (s : List ℕ) (tape : List ℤ) (records : ℕ) where
  module _ (len : ℕ) where
    -- a sheet that is not admitted
    pub run_unread : 0 < (admitted s len).refusal.number → run_refusal s tape records len ≡ (admitted s len).refusal
    unfolding run_refusal admitted pick
    run_unread h =
        by_order memory_limit len (λ l. rw (lt-leb len memory_limit l))
        (λ l.
        let n : 0 < (read_sheet s).refusal.number = rw (le-leb len memory_limit l) at h in
        rw (le-leb len memory_limit l, ne_eqb (read_sheet s).refusal.number 0 (λ e. omega arith)))

    -- one that is
    pub run_readable : (admitted s len).refusal.number ≡ 0 → run_refusal s tape records len ≡ tape_refusal (read_sheet s).sheet tape records len
    unfolding run_refusal admitted pick
    run_readable h =
        by_order memory_limit len
        (λ l. let z : memory_too_large ≡ 0 = rw (lt-leb len memory_limit l) at h in absurd (omega arith))
        (λ l.
        let n : (read_sheet s).refusal.number ≡ 0 = rw (le-leb len memory_limit l) at h in
        rw (le-leb len memory_limit l, eq-eqb (read_sheet s).refusal.number 0 n))

  module _ (memory : List ℕ) where
    -- refused: empty registers, memory unchanged
    pub run_refused : {r : Refusal} → run_refusal s tape records (length memory) ≡ r → 0 < r.number → carry_answer r empty_registers no_counts ≡ run_tape s tape records memory
    unfolding run_tape pick
    run_refused {r} e n = rw (e, ne_eqb r.number 0 (λ q. omega arith))

    pub ran_refused : {r : Refusal} → run_refusal s tape records (length memory) ≡ r → 0 < r.number → memory ≡ ran_memory s tape records memory
    unfolding ran_memory pick
    ran_refused {r} e n = rw (e, ne_eqb r.number 0 (λ q. omega arith))

    -- accepted: what the records leave
    pub run_accepted : {registers : Registers} {after : List ℕ} {counts : Counts} → (run_refusal s tape records (length memory)).number ≡ 0
        → machine registers after counts ≡ ran records (read_sheet s).sheet (tape_record tape) (started memory) → carry_answer not_refused registers counts ≡ run_tape s tape records memory
    unfolding run_tape pick
    run_accepted n e = rw (eq-eqb (run_refusal s tape records (length memory)).number 0 n, ← e)

    pub ran_accepted : {registers : Registers} {after : List ℕ} {counts : Counts} → (run_refusal s tape records (length memory)).number ≡ 0
        → machine registers after counts ≡ ran records (read_sheet s).sheet (tape_record tape) (started memory) → after ≡ ran_memory s tape records memory
    unfolding ran_memory pick
    ran_accepted n e = rw (eq-eqb (run_refusal s tape records (length memory)).number 0 n, ← e)
