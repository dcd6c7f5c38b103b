use mathlib.Core.Path.{◌∙◌}
use native.Mathlib.Omega.{arith}
use Rattle.memory.proofs.Laws.{one, four, element_1, element_2, element_4}
use Rattle.memory.proofs.element_at.Goals as goal

pub bounds-memory-byte : goal.bounds-memory-byte
bounds-memory-byte c = omega (arith, one c.requires.0 c.if-size-lt2.true)

pub returns-then-size-lt2 : goal.returns-then-size-lt2
returns-then-size-lt2 c = c.wide.ensures.0 ∙ element_1 _ _ (one c.requires.0 c.if-size-lt2.true)

pub returns-then-size-lt3 : goal.returns-then-size-lt3
returns-then-size-lt3 c = c.u16_at.ensures ∙ element_2 _ _ (omega arith)

pub u32_at-requires : goal.u32_at-requires
u32_at-requires c = omega (arith, four c.requires.0 c.if-size-lt3.false)

pub returns : goal.returns
returns c = c.u32_at.ensures ∙ element_4 _ _ (four c.requires.0 c.if-size-lt3.false)
