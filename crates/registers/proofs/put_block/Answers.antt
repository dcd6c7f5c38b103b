use Rattle.std.proofs.Common.{◌≡◌, ℕ, refl, sym, ◌∙◌, arith}
use Rattle.numbers.specs.Laws.Lists.{line_none}
use Rattle.numbers.specs.Laws.Lines.{line_next}
use Rattle.registers.specs.Registers.{filled_elements}
use Rattle.registers.proofs.put_block.Goals as goal

pub loop-e-init : goal.loop-e-init
loop-e-init c = sym (line_none _ _ _)

pub loop-e-preserved : goal.loop-e-preserved
loop-e-preserved c = line_next _ _ _ _ c.loop-e.invariant refl

pub returns : goal.returns
returns c =
    let a = c.args in
    let n : c.loop-e.e ≡ a.count = omega arith in
    let put = rw (n, c.place_of-base.ensures) at c.loop-e.invariant in
    c.fill_elements.ensures ∙ (λ i. filled_elements (put i) a.register a.count (c.saturating_sub.ensures i) 0)
