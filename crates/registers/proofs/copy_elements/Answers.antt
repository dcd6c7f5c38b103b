use Rattle.std.proofs.Common.{◌≡◌, ℕ, ◌+◌, ◌-◌, get_or, ap, ◌∙◌, arith}
use Rattle.registers.specs.Registers.{filled_elements, place_of, element_of}
use Rattle.registers.proofs.Laws.{line_is}
use Rattle.registers.proofs.copy_elements.Goals as goal

pub returns : goal.returns
returns c =
    let a = c.args in
    let w = c.copy_within.ensures.by_index in
    let copied =
    line_is a.elements.now c.copy_within.new.self (place_of a.register 0) (element_of a.elements.now a.source) a.count (omega arith) c.copy_within.ensures.len
    (λ i l.
    let at : c.place_of-from.result + (place_of a.register 0 + i - c.place_of-to.result) ≡ place_of a.source i = omega arith in
    w.0 _ 0 (omega arith) (omega arith) ∙ ap (λ (k : ℕ). get_or a.elements.now k 0) at)
    (λ k l. w.1 k 0 (omega arith)) (λ k l. w.2 k 0 (omega arith)) in
    c.fill_elements.ensures ∙ (λ i. filled_elements (copied i) a.register a.count (c.saturating_sub.ensures i) 0)
