use Rattle.std.proofs.Common.{◌≡◌, ◌+◌, ◌-◌}
use Rattle.masks.specs.Masks.{packed}
use Rattle.masks.specs.Entries.{entry_bit}
use Rattle.masks.proofs.mask_word.Given as goal

abbrev pub invariant-loop-left : goal.invariant-loop-left
invariant-loop-left l = l.word ≡ packed (entry_bit l.entries l.count) (l.first + l.left) (32 - l.left)
