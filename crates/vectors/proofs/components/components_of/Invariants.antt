use Rattle.std.proofs.Common.{◌≡◌, replicate}
use Rattle.numbers.specs.Lists.{line}
use Rattle.sheet.specs.Sizes.{side_places}
use Rattle.vectors.specs.Residues.{residue_at}
use Rattle.vectors.proofs.components.components_of.Given as goal

abbrev pub invariant-loop-c : goal.invariant-loop-c
invariant-loop-c l = l.out ≡ line (replicate side_places 0) 0 (residue_at l.elements l.kind l.v) l.c
