use Rattle.checking.proofs.checks.check_whole.Goals as goal

pub returns : goal.returns
returns c = rw (c.whole_refusal-stop.ensures, c.whole_types-after.ensures)
