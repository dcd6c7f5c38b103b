use mathlib.Core.List.{[], ◌∷◌}
use Rattle.numbers.specs.Laws.Lists.{puts_after}
use Rattle.fields.proofs.writing.put_pair.Goals as goal

pub returns : goal.returns
returns c =
    let a = c.args in
    puts_after a.out.now a.at (a.a ∷ []) (a.b ∷ []) c.put_byte.ensures c.put_byte-2.ensures
