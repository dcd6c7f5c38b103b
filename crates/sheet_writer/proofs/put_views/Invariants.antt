use Rattle.std.specs.Prelude.{ℕ}
use Rattle.tensor_ranges.specs.Views.{the_view}
use Rattle.sheet_bytes.specs.Bytes.{view_field}
use Rattle.fields.specs.Laws.Puts.{Turns}
use Rattle.sheet_writer.proofs.put_views.Given as goal

abbrev pub invariant-loop-v : goal.invariant-loop-v
invariant-loop-v l = Turns l.initial.out l.at (λ (j : ℕ). view_field (the_view l.fn.vs j)) l.out l.p l.v-index
