use Rattle.std.specs.Prelude.{ℕ, ◌+◌, ◌*◌, ◌≡◌, replicate}
use Rattle.numbers.specs.Lists.{line}
use Rattle.tensor_ranges.specs.Layouts.{no_dimension}
use Rattle.contents.specs.Contents.{dimension_at}
use Rattle.contents.proofs.dimensions_at.Given as goal

abbrev pub invariant-loop-k : goal.invariant-loop-k
invariant-loop-k l = l.ds ≡ line (replicate 5 no_dimension) 0 (λ (i : ℕ). dimension_at l.s (l.p + i * 10)) l.k
