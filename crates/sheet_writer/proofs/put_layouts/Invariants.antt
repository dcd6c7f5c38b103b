use Rattle.std.specs.Prelude.{ℕ}
use Rattle.tensor_ranges.specs.Layouts.{the_layout}
use Rattle.sheet_bytes.specs.Bytes.{layout_field}
use Rattle.fields.specs.Laws.Puts.{Turns}
use Rattle.sheet_writer.proofs.put_layouts.Given as goal

abbrev pub invariant-loop-l : goal.invariant-loop-l
invariant-loop-l l = Turns l.initial.out l.at (λ (j : ℕ). layout_field (the_layout l.fn.ls j)) l.out l.p l.l-index
