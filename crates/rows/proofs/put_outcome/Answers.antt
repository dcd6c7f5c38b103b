use mathlib.Core.Path.{refl}
use Rattle.rows.proofs.put_outcome.Goals as goal

pub returns-in-Nowhere : goal.returns-in-Nowhere
returns-in-Nowhere c = rw (c.sort_of-sort.ensures, c.value_of-value.ensures, c.in-Nowhere.is) refl

pub returns-in-Below : goal.returns-in-Below
returns-in-Below c = rw (c.sort_of-sort.ensures, c.value_of-value.ensures, c.in-Below.is) refl

pub returns-in-Above : goal.returns-in-Above
returns-in-Above c = rw (c.sort_of-sort.ensures, c.value_of-value.ensures, c.in-Above.is) refl
