use Rattle.std.proofs.Common.{◌*◌, refl, arith, rules}
use Rattle.std.proofs.lemmas.List.{places}
use Rattle.registers.specs.Laws.Sized.{sides}
use Rattle.registers.specs.Grids.{block_on}
use Rattle.registers.proofs.Laws.{filled_is}
use Rattle.registers.proofs.blocks.fill_block.Goals as goal

pub returns : goal.returns
unfolding block_on
returns c =
    let a = c.args in
    let few = sides a.rows a.columns (omega arith) (omega arith) in
    filled_is a.out.now c.fill.new.self 0 a.value (a.rows * a.columns) refl refl (omega arith) (search (rules, places))
