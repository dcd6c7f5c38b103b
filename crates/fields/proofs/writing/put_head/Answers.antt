use mathlib.Core.List.{[], ◌∷◌}
use Rattle.numbers.specs.Laws.Lists.{puts_after}
use Rattle.numbers.specs.Little.{u16_bytes}
use Rattle.fields.proofs.writing.put_head.Goals as goal

pub returns : goal.returns
returns c =
    let a = c.args in
    puts_after a.out.now a.at (a.tag ∷ []) (u16_bytes a.content) c.put_byte.ensures c.put_u16.ensures
