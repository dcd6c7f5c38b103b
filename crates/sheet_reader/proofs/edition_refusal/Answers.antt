use mathlib.Core.Path.{refl}
use Rattle.numbers.specs.Laws.Choice.{tests, taken, left}
use Rattle.sheet_reader.specs.Reading.{edition_refusal}
use Rattle.sheet_reader.proofs.edition_refusal.Goals as goal

pub returns-then-given-gt0 : goal.returns-then-given-gt0
unfolding edition_refusal
returns-then-given-gt0 c = taken _ (search tests) refl

pub returns-then-len-ne1 : goal.returns-then-len-ne1
unfolding edition_refusal
returns-then-len-ne1 c = left _ (search tests) (left _ (search tests) refl)

pub returns-then-not-edition_ok : goal.returns-then-not-edition_ok
unfolding edition_refusal
returns-then-not-edition_ok c = left _ (search tests) (taken _ (search tests) (left _ (search tests) refl))

pub returns : goal.returns
unfolding edition_refusal
returns c = left _ (search tests) (taken _ (search tests) (taken _ (search tests) refl))
