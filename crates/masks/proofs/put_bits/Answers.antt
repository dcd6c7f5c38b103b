use Rattle.std.proofs.Common.{◌+◌, ◌*◌, arith}
use Rattle.masks.specs.Entries.{entry_bit}
use Rattle.masks.proofs.Laws.Bits.{entry_bits}
use Rattle.masks.proofs.Laws.Written.{sum_most, word_counted}
use Rattle.masks.proofs.put_bits.Goals as goal

pub overflow_add-ones : goal.overflow_add-ones
overflow_add-ones c =
    let a = c.args in
    let l = c.loop-i in
    let bit = entry_bit a.entries.now a.count in
    let b = entry_bits a.entries.now a.count in
    omega (arith, word_counted bit b l.i c.mask_word-word.ensures l.invariant.0, sum_most bit b ((l.i + 1) * 32))
