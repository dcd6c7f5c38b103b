use Rattle.judging.specs.Laws.Elements.{inside_lies}
use Rattle.moves.specs.Laws.Elements.{put_turn}
use Rattle.moves.proofs.put_elements.Goals as goal

pub put_element-requires : goal.put_element-requires
put_element-requires c =
    let q = c.requires in
    let i = c.loop-i in
    (q.element_size.0, rw (i.auto.memory, c.byte_at-at.ensures) (inside_lies _ _ _ _ _ _ q.down_value i.i c.loop-i-test.true).below)

pub loop-i-preserved : goal.loop-i-preserved
loop-i-preserved c =
    let a = c.args in
    let i = c.loop-i in
    put_turn a.register a.first i.i a.size a.byte a.up a.down a.memory.now i.invariant c.byte_at-at.ensures c.element_of-x.ensures c.put_element.ensures
