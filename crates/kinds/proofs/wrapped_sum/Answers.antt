use Prim.Native.Nat.{◌+◌}
use lib.Pow.{pow_pos}
use Rattle.kinds.specs.Widths.{width}
use Rattle.kinds.proofs.Laws.{wrapped, wrapped_lt}
use Rattle.kinds.proofs.wrapped_sum.Goals as goal

pub overflow_sub-result : goal.overflow_sub-result
overflow_sub-result c = rw c.modulus.ensures (pow_pos (width c.args.kind))

pub overflow_cast-result-3 : goal.overflow_cast-result-3
overflow_cast-result-3 c = record { fits = wrapped_lt c.args.kind (c.args.a + c.args.b) _ c.modulus.ensures }

pub returns : goal.returns
returns c = wrapped c.args.kind _ _ c.modulus.ensures
