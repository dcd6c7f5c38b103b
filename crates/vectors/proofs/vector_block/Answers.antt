use mathlib.Core.Path.{ap, ◌∙◌}
use mathlib.Core.List.{List}
use Prim.Native.Nat.{ℕ}
use Rattle.registers.specs.Grids.{block_on}
use Rattle.registers.specs.Laws.Grids.{block_same}
use Rattle.vectors.specs.Results.{result_at}
use Rattle.vectors.specs.Residues.{listed}
use Rattle.vectors.proofs.Laws.Refusals.{accepted_inside}
use Rattle.vectors.proofs.Laws.Results.{listed_result}
use Rattle.vectors.proofs.vector_block.Goals as goal

pub result_block-requires : goal.result_block-requires
result_block-requires c = let p = c.requires in (p.0.rows, p.0.columns, accepted_inside _ _ _ p.1)

pub returns : goal.returns
returns c =
    let s = c in
    let a = s.args in
    c.result_block.ensures
    ∙ ap (λ (xs : List ℕ). block_on a.out.now a.v.rows 1 (λ (i j : ℕ). result_at a.memory.now a.v (listed xs) i)) c.components_of-components.ensures
    ∙ block_same _ _ _ _ _ (λ i j l h. listed_result a.elements.now a.memory.now a.t.kind a.v s.requires.0.columns i)
