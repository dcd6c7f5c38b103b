use mathlib.Core.Path.{◌∙◌}
use Rattle.whole_steps.proofs.Laws.Within.{whole_ok_lem}
use Rattle.checking.specs.Laws.Names.{load_register, load_object}
use Rattle.checking.proofs.checks.step_types.Goals as goal

pub the_type-t-requires : goal.the_type-t-requires
the_type-t-requires c = rw c.object_register.ensures (load_object _ _ _ _ _ _ (rw c.in-Load.is at c.requires.3))

pub with_type-requires : goal.with_type-requires
with_type-requires c = load_register _ _ _ _ _ _ (rw c.in-Load.is at c.requires.3)

pub whole_types-requires : goal.whole_types-requires
whole_types-requires c = whole_ok_lem _ _ (rw c.in-Whole.is at c.requires.3)

pub returns-in-Load : goal.returns-in-Load
returns-in-Load c = c.with_type.ensures ∙ rw (c.in-Load.is, c.the_type-t.ensures, c.object_register.ensures)

pub returns-in-Whole : goal.returns-in-Whole
returns-in-Whole c = rw c.in-Whole.is c.whole_types.ensures
