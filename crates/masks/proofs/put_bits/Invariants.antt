use Rattle.std.proofs.Common.{◌≡◌, ◌*◌}
use Rattle.std.proofs.lemmas.List.Edits.{sets}
use Rattle.masks.specs.Masks.{sum_of}
use Rattle.masks.specs.Entries.{entry_bit}
use Rattle.masks.proofs.Laws.Written.{bits}
use Rattle.masks.proofs.put_bits.Given as goal

abbrev pub invariant-loop-i : goal.invariant-loop-i
invariant-loop-i l = (l.ones ≡ sum_of (entry_bit l.entries l.count) (l.i * 32)) × (l.masks ≡ sets l.initial.masks l.at (bits (entry_bit l.entries l.count) (l.i * 4)))
