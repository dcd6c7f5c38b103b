use Rattle.kinds.specs.Widths.{fits}
use Rattle.kinds.proofs.fits.Goals as goal

pub returns : goal.returns
unfolding fits
returns c = rw c.modulus.ensures
