use Rattle.std.proofs.Common.{ℕ, ◌%◌, ◌^◌, min, max, ap, ◌∙◌, arith}
use Rattle.vectors.specs.Residues.{low_raised, high_raised}
use Rattle.vectors.proofs.Laws.Saturation.{nearest, clamped_saturated}
use Rattle.vectors.proofs.components.saturated.Goals as goal

pub returns : goal.returns
returns c =
    let a = c.args in
    ap (λ (n : ℕ). n % 2 ^ 32)
    (c.clamp-nearest.ensures
    ∙ (λ i. max (c.low_raised.ensures i) (min (c.raised.ensures i) (c.high_raised.ensures i)))
    ∙ nearest (low_raised a.kind) (high_raised a.kind) _ (omega arith))
    ∙ clamped_saturated a.from a.kind a.x
