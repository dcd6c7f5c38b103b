use mathlib.Core.Path.{refl, sym}
use Rattle.numbers.specs.Laws.Lists.{line_none}
use Rattle.numbers.specs.Laws.Lines.{line_next}
use Rattle.registers.proofs.fill_elements.Goals as goal

pub loop-i-init : goal.loop-i-init
loop-i-init c = sym (line_none _ _ _)

pub loop-i-preserved : goal.loop-i-preserved
loop-i-preserved c = line_next _ _ _ _ c.loop-i.invariant refl
