use Rattle.std.specs.Prelude.{ℕ}
use Rattle.tensor_ranges.specs.Views.{the_view_dimension}
use Rattle.fields.specs.Laws.Puts.{Turns}
use Rattle.sheet_bytes.specs.Bytes.{view_dimension_bytes}
use Rattle.sheet_bytes.proofs.views.put_view_dimensions.Given as goal

abbrev pub invariant-loop-d : goal.invariant-loop-d
invariant-loop-d l = Turns l.initial.out l.at (λ (j : ℕ). view_dimension_bytes (the_view_dimension l.fn.ds j)) l.out l.p l.d-index
