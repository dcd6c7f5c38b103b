use mathlib.Core.Path.{refl}
use Rattle.tensor_ranges.specs.Layouts.{no_layout}
use Rattle.tensor_ranges.specs.Views.{no_view}
use Rattle.checking.proofs.turns.no_access.Goals as goal

pub returns : goal.returns
unfolding no_layout no_view
returns c = rw (c.no_dimension-d.ensures, c.no_view_dimension-v.ensures) refl
