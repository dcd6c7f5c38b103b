use Rattle.std.proofs.Common.{ℕ, ◌^◌, ◌∙◌}
use Rattle.numbers.specs.Remainders.{remainder}
use Rattle.vectors.specs.Residues.{listed, line_to}
use Rattle.vectors.proofs.Laws.Results.{bias_next}
use Rattle.vectors.proofs.results.result_at.Goals as goal

pub returns : goal.returns
returns c =
    let a = c.args in
    let line : ℕ → ℕ → ℕ → ℕ = λ first across n. remainder (line_to a.memory.now first across a.v.matrix (listed a.components.now) n) (2 ^ 32) in
    bias_next _ _ _ _
    (c.dot-sum.ensures ∙ (λ i. line (c.row_byte-first.ensures.0 i) (c.column_step-across.ensures.0 i) (c.from-columns.ensures i)))
    c.bias_at.ensures c.bias_at.type_inv
