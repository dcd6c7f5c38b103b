use Rattle.judging.specs.Laws.Elements.{inside_lies}
use Rattle.moves.specs.Laws.Elements.{take_turn}
use Rattle.moves.proofs.take_elements.Goals as goal

pub element_at-x-requires : goal.element_at-x-requires
element_at-x-requires c =
    let q = c.requires in
    (q.element_size.0, rw c.byte_at-at.ensures (inside_lies _ _ _ _ _ _ q.down_value c.loop-i.i c.loop-i-test.true).below)

pub loop-i-preserved : goal.loop-i-preserved
loop-i-preserved c =
    let a = c.args in
    let i = c.loop-i in
    take_turn a.register a.first i.i a.size a.byte a.up a.down a.elements.now i.invariant c.byte_at-at.ensures c.element_at-x.ensures c.put_element_of.ensures
