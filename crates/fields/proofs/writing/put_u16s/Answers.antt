use Rattle.numbers.specs.Laws.Lists.{puts_after}
use Rattle.numbers.specs.Little.{u16_bytes}
use Rattle.fields.proofs.writing.put_u16s.Goals as goal

pub returns : goal.returns
returns c =
    let a = c.args in
    puts_after a.out.now a.at (u16_bytes a.x) (u16_bytes a.y) c.put_u16.ensures c.put_u16-2.ensures
