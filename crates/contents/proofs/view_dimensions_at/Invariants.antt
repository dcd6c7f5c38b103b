use Rattle.std.specs.Prelude.{ℕ, ◌+◌, ◌*◌, ◌≡◌, replicate}
use Rattle.numbers.specs.Lists.{line}
use Rattle.tensor_ranges.specs.Views.{no_view_dimension}
use Rattle.contents.specs.Contents.{view_dimension_at}
use Rattle.contents.proofs.view_dimensions_at.Given as goal

abbrev pub invariant-loop-k : goal.invariant-loop-k
invariant-loop-k l = l.ds ≡ line (replicate 5 no_view_dimension) 0 (λ (i : ℕ). view_dimension_at l.s (l.p + i * 4)) l.k
