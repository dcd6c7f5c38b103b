use Rattle.std.proofs.Common.{◌≡◌, ◌+◌, ◌-◌, sym, arith}
use Rattle.numbers.specs.Laws.Choice.{by_order}
use Rattle.masks.specs.Entries.{entry_bit}
use Rattle.masks.proofs.Laws.Packed.{packed_none, packed_zeros}
use Rattle.masks.proofs.Laws.Bits.{entry_past}
use Rattle.masks.proofs.mask_word.Goals as goal

-- past the word's elements there is no bit, and past its end no place
pub loop-left-init : goal.loop-left-init
loop-left-init c =
    let a = c.args in
    let w = c.word_elements-left in
    let bit = entry_bit a.entries.now a.count in
    by_order w.result 32
    (λ h. sym (packed_zeros bit (a.first + w.result) (32 - w.result) (λ e l. entry_past a.entries.now a.count e (omega (arith, w.ensures.2 h)))))
    (λ h.
    let none : 32 - w.result ≡ 0 = omega arith in
    rw none (sym (packed_none bit (a.first + w.result))))
