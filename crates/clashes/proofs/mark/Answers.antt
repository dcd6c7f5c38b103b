use Prim.Native.Nat.{ℕ, ◌-◌}
use mathlib.Core.Path.{refl, ap}
use native.Mathlib.Nat.{mod-lt}
use lib.Bits.{bit_or}
use lib.ListN.{get_or, set}
use native.Mathlib.Omega.{arith}
use Rattle.numbers.specs.Laws.Choice.{taken, left, went}
use Rattle.clashes.specs.Marks.{word_of, bit_of, unmarked, with_mark}
use Rattle.clashes.proofs.Marks.{byte_some, word_inside, one_shifted}
use Rattle.clashes.proofs.mark.Goals as goal

pub returns-then-not-has_byte : goal.returns-then-not-has_byte
unfolding unmarked with_mark
returns-then-not-has_byte c = let h = went c.has_byte.ensures c.if-not-has_byte.true in (left _ h refl, left _ h refl)

pub overflow_sub-byte : goal.overflow_sub-byte
overflow_sub-byte c = omega (arith, byte_some c.args.x (went c.has_byte.ensures c.if-not-has_byte.false))

pub bounds-marks-at : goal.bounds-marks-at
bounds-marks-at c = word_inside c.args.x (went c.has_byte.ensures c.if-not-has_byte.false)

pub bounds-marks-at-2 : goal.bounds-marks-at-2
bounds-marks-at-2 c = word_inside c.args.x (went c.has_byte.ensures c.if-not-has_byte.false)

pub returns : goal.returns
unfolding unmarked with_mark
returns c = let a = c.args in
    let h = went c.has_byte.ensures c.if-not-has_byte.false in
    let e = one_shifted (bit_of a.x) (mod-lt (a.x - 1) (omega arith)) in
    (taken _ h refl, taken _ h (ap (λ (n : ℕ). set a.marks.now (word_of a.x) (bit_or (get_or a.marks.now (word_of a.x) 0) n)) e))
