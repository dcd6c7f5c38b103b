use Rattle.std.specs.Prelude.{ℕ}
use Rattle.sheet_ranges.specs.Steps.{the_step}
use Rattle.step_bytes.specs.Bytes.{step_field}
use Rattle.fields.specs.Laws.Puts.{Turns}
use Rattle.sheet_writer.proofs.put_steps.Given as goal

abbrev pub invariant-loop-c : goal.invariant-loop-c
invariant-loop-c l = Turns l.initial.out l.at (λ (j : ℕ). step_field l.edition (the_step l.fn.cs j)) l.out l.p l.c-index
