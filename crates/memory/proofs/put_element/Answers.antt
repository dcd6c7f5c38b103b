use mathlib.Core.Path.{◌∙◌}
use native.Mathlib.Omega.{arith}
use Rattle.memory.proofs.Laws.{one, four, with_1, with_2, with_4}
use Rattle.memory.proofs.put_element.Goals as goal

pub bounds-memory-byte : goal.bounds-memory-byte
bounds-memory-byte c = omega (arith, one c.requires.0 c.if-size-lt2.true)

pub returns-then-size-lt2 : goal.returns-then-size-lt2
returns-then-size-lt2 c = with_1 _ _ _ (one c.requires.0 c.if-size-lt2.true)

pub returns-then-size-lt3 : goal.returns-then-size-lt3
returns-then-size-lt3 c = c.put_u16.ensures ∙ with_2 _ _ _ (omega arith)

pub put_u32-requires : goal.put_u32-requires
put_u32-requires c = omega (arith, four c.requires.0 c.if-size-lt3.false)

pub returns : goal.returns
returns c = c.put_u32.ensures ∙ with_4 _ _ _ (four c.requires.0 c.if-size-lt3.false) (omega arith)
