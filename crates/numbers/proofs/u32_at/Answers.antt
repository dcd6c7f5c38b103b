use Rattle.numbers.specs.Little.{u32_at}
use Rattle.numbers.proofs.u32_at.Goals as goal

pub returns : goal.returns
unfolding u32_at
returns c = cc
