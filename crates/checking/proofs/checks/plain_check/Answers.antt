use Rattle.checking.proofs.checks.plain_check.Goals as goal

pub returns : goal.returns
returns c = rw c.stop_at.ensures
