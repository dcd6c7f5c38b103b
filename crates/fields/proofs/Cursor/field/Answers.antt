use mathlib.Core.Path.{refl}
use Rattle.numbers.specs.Laws.Choice.{ways, taken, left}
use Rattle.fields.specs.Fields.{field_at}
use Rattle.fields.proofs.Cursor.field.Goals as goal

pub returns-then-s-at-lt-HEAD : goal.returns-then-s-at-lt-HEAD
unfolding field_at
returns-then-s-at-lt-HEAD c = search ways

pub returns-then-len-s : goal.returns-then-len-s
unfolding field_at
returns-then-len-s c = left _ (search ways) (taken _ (search (ways, ← c.u16_at-len.ensures)) (cc))

pub returns-else-len-s : goal.returns-else-len-s
unfolding field_at
returns-else-len-s c = left _ (search ways) (left _ (search (ways, ← c.u16_at-len.ensures)) refl)
