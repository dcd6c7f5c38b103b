use mathlib.Core.Path.{◌∙◌}
use Rattle.checking.specs.Laws.Names.{load_window, load_object, store_register, store_window}
use Rattle.checking.proofs.turns.step_access.Goals as goal

pub the_type-t-requires : goal.the_type-t-requires
the_type-t-requires c = rw c.object_register.ensures (load_object _ _ _ _ _ _ (rw c.in-Load.is at c.requires.1.1))

pub access_of-requires : goal.access_of-requires
access_of-requires c = let s = c in (s.requires.0, load_window _ _ _ _ _ _ (rw c.in-Load.is at s.requires.1.1))

pub the_type-t-requires-in-Store : goal.the_type-t-requires-in-Store
the_type-t-requires-in-Store c = store_register _ _ _ _ (rw c.in-Store.is at c.requires.1.1)

pub access_of-requires-in-Store : goal.access_of-requires-in-Store
access_of-requires-in-Store c = let s = c in (s.requires.0, store_window _ _ _ _ (rw c.in-Store.is at s.requires.1.1))

pub returns-in-Nothing : goal.returns-in-Nothing
returns-in-Nothing c = rw c.in-Nothing.is c.no_access.ensures

pub returns-in-Load : goal.returns-in-Load
returns-in-Load c = rw c.in-Load.is (c.access_of.ensures ∙ rw (c.the_type-t.ensures, c.object_register.ensures))

pub returns-in-Store : goal.returns-in-Store
returns-in-Store c = rw c.in-Store.is (c.access_of-in-Store.ensures ∙ rw c.the_type-t-in-Store.ensures)

pub returns-in-Whole : goal.returns-in-Whole
returns-in-Whole c = rw c.in-Whole.is c.no_access-in-Whole.ensures
