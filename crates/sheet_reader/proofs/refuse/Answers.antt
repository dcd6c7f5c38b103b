use Rattle.sheet_reader.specs.Reading.{refused_read}
use Rattle.sheet_reader.proofs.refuse.Goals as goal

pub returns : goal.returns
unfolding refused_read
returns c = rw (c.refusal_at.ensures, c.nothing_given.ensures)
