use Rattle.addressing.proofs.Loops.{Tailing}
use Rattle.addressing.proofs.tensors.tensor_index.Given as goal

abbrev pub invariant-loop-d : goal.invariant-loop-d
invariant-loop-d l = Tailing l.load l.l l.rank l.index l.d l.left l.sum
