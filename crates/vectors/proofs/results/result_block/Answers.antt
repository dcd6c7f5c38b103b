use Rattle.std.proofs.Common.{◌≡◌, ◌∙◌, arith}
use Rattle.registers.specs.Laws.Grids.{column_block}
use Rattle.vectors.proofs.results.result_block.Goals as goal

pub returns : goal.returns
returns c = let e : c.loop-i.i ≡ c.args.v.rows = omega arith in rw e at c.loop-i.invariant ∙ column_block _ _ _
