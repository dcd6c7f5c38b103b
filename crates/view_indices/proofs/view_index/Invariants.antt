use Rattle.view_indices.proofs.Loops.{Weighing}
use Rattle.view_indices.proofs.view_index.Given as goal

abbrev pub invariant-loop-k : goal.invariant-loop-k
invariant-loop-k l = Weighing l.permutation l.sizes l.strides l.initial.k l.index l.k l.left l.sum
