use Rattle.std.proofs.Common.{rules, tests}
use Rattle.numbers.specs.Laws.Ranges.{all_range}
use Rattle.judging.specs.Records.{byte_inside}
use Rattle.judging.proofs.bytes_inside.Goals as goal

pub returns : goal.returns
returns c =
    let a = c.args in
    all_range a.count (byte_inside a.size a.len a.byte a.up a.down) _ _ _ c.all.ensures.ran (λ x b q k. search (rules, tests))
