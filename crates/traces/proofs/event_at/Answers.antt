use Rattle.traces.specs.Events.{event_at}
use Rattle.traces.proofs.event_at.Goals as goal

pub returns : goal.returns
unfolding event_at
returns c = cc
