-- The answers of carrying out.
use Prim.Native.Nat.{ℕ, ◌<◌}
use mathlib.Core.Path.{◌≡◌}
use mathlib.Core.List.{List}
use native.Mathlib.Omega.{arith}
use lib.ListN.{length}
use borrow.Author.Tests.{eq-eqb, ne_eqb}
use Rattle.numbers.specs.Choice.{pick}
use Rattle.sheet_reader.specs.Reading.{read_sheet}
use Rattle.registers.specs.Registers.{empty_registers}
use Rattle.registers.specs.declared.Registers.{Registers}
use Rattle.refusals.specs.Refusals.{not_refused}
use Rattle.counts.specs.Counts.{no_counts}
use Rattle.counts.specs.declared.Counts.{Counts}
use Rattle.checking.specs.Checking.{checked_sheet}
use Rattle.checking.specs.declared.CheckAnswer.{CheckAnswer}
use Rattle.carrying.specs.Steps.{machine}
use Rattle.carrying.specs.Carrying.{started, performed, carry_answer, carried, carried_memory}

module _ (s memory : List ℕ) where
  -- refused: the check's refusal, empty registers, memory unchanged
  pub carried_refused : {c : CheckAnswer} → checked_sheet s (length memory) ≡ c → 0 < c.refusal.number → carry_answer c.refusal empty_registers no_counts ≡ carried s memory
  unfolding carried pick
  carried_refused {c} e n = rw (e, ne_eqb c.refusal.number 0 (λ q. omega arith))

  pub memory_refused : {c : CheckAnswer} → checked_sheet s (length memory) ≡ c → 0 < c.refusal.number → memory ≡ carried_memory s memory
  unfolding carried_memory pick
  memory_refused {c} e n = rw (e, ne_eqb c.refusal.number 0 (λ q. omega arith))

  -- accepted: what the steps leave
  pub carried_accepted : {registers : Registers} {after : List ℕ} {counts : Counts} → (checked_sheet s (length memory)).refusal.number ≡ 0 → machine registers after counts ≡ performed (read_sheet s).sheet (started memory) → carry_answer not_refused registers counts ≡ carried s memory
  unfolding carried pick
  carried_accepted n e = rw (eq-eqb (checked_sheet s (length memory)).refusal.number 0 n, ← e)

  pub memory_accepted : {registers : Registers} {after : List ℕ} {counts : Counts} → (checked_sheet s (length memory)).refusal.number ≡ 0 → machine registers after counts ≡ performed (read_sheet s).sheet (started memory) → after ≡ carried_memory s memory
  unfolding carried_memory pick
  memory_accepted n e = rw (eq-eqb (checked_sheet s (length memory)).refusal.number 0 n, ← e)
