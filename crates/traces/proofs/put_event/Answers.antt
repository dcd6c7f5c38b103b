use mathlib.Core.List.{[], ◌∷◌, ◌++◌}
use Rattle.numbers.specs.Little.{u16_bytes, u32_bytes}
use Rattle.numbers.specs.Laws.Lists.{puts_after}
use Rattle.fields.specs.Bytes.{head_bytes, field_bytes}
use Rattle.traces.specs.Events.{event_tag, content_length}
use Rattle.traces.specs.Writing.{event_bytes}
use Rattle.traces.proofs.put_event.Goals as goal

pub returns : goal.returns
unfolding event_bytes field_bytes
returns c =
    let a = c.args in
    let e = a.e in
    let out = a.out.now in
    let head = head_bytes event_tag content_length in
    let place = head ++ u16_bytes e.step ++ u16_bytes e.element in
    puts_after out a.at (place ++ (e.sort ∷ [])) (u32_bytes e.byte)
    (puts_after out a.at place (e.sort ∷ [])
    (puts_after out a.at head (u16_bytes e.step ++ u16_bytes e.element) c.put_head.ensures c.put_u16s.ensures)
    c.put_byte.ensures)
    c.put_u32.ensures
