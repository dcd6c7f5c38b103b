use Prim.Native.Nat.{◌%◌, ◌/◌}
use Rattle.numbers.specs.Laws.Lists.{puts_after}
use Rattle.numbers.specs.Little.{u16_bytes}
use Rattle.numbers.proofs.put_u32.Goals as goal

pub returns : goal.returns
returns c =
    let a = c.args in
    puts_after a.out.now a.at (u16_bytes (a.x % 65536)) (u16_bytes (a.x / 65536))
    c.put_u16.ensures c.put_u16-2.ensures
