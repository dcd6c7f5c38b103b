-- An element of the result is below 2^32, and the result's kind is as wide.
use Rattle.std.specs.Prelude.{List, ℕ, ◌^◌, ◌<◌, pos, ◌+ℤ◌}
use Rattle.std.proofs.Common.{arith}
use Rattle.numbers.specs.Laws.Remainders.{remainder_lt}
use Rattle.kinds.specs.Widths.{width}
use Rattle.kinds.specs.Laws.Widths.{word_width}
use Rattle.sheet.specs.declared.VectorStep.{VectorStep}
use Rattle.vectors.specs.Components.{component_at}
use Rattle.vectors.specs.Results.{bias_at, product_to, result_at, vector_result}
use Rattle.vectors.specs.Within.{VectorParts}

pub vector_fits : (es : List ℕ) (kind : ℕ) (memory : List ℕ) (v : VectorStep) → VectorParts v → (i j : ℕ) → vector_result es kind memory v i j < 2 ^ width v.kind
unfolding result_at
vector_fits es kind memory v p i j =
    rw (word_width v.kind p.kind) (remainder_lt (product_to memory v (component_at es kind v) i v.columns +ℤ pos (bias_at memory v i)) {n = 2 ^ 32} (omega arith))
