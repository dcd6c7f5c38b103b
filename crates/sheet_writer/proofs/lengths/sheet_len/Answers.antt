use native.Mathlib.Omega.{arith}
use Rattle.sheet_writer.specs.Laws.Lengths.{length-sheet}
use Rattle.sheet_writer.proofs.lengths.sheet_len.Goals as goal

pub returns : goal.returns
returns c = let e = length-sheet c.args.model in omega arith
