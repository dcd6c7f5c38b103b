use Rattle.expected.specs.Listed.{listed_event}
use Rattle.tracing.proofs.Laws.{field_after}
use Rattle.tracing.proofs.write_events.Goals as goal

pub loop-k-preserved : goal.loop-k-preserved
loop-k-preserved c =
    let a = c.args in
    let l = c.loop-k in
    field_after a.out.now a.at (listed_event a.step a.entries.now) l.k l.invariant c.listed_event-e.ensures c.put_event.ensures
