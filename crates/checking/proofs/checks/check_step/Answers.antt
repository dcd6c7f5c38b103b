use mathlib.Core.Path.{ap, ◌∙◌}
use Rattle.registers.specs.Types.{the_type, with_type}
use Rattle.whole_steps.proofs.Laws.Within.{whole_ok_lem}
use Rattle.checking.specs.Steps.{checked_step}
use Rattle.checking.specs.Laws.Names.{load_register, load_object}
use Rattle.checking.specs.Laws.Accesses.{turned_sized, told_none, nothing_bare, whole_bare, load_check_lem, store_check_lem}
use Rattle.checking.proofs.checks.check_step.Goals as goal

pub the_type-t-requires : goal.the_type-t-requires
the_type-t-requires c = rw c.object_register.ensures (load_object _ _ _ _ _ _ (rw c.in-Load.is at c.requires.0.1.ok))

pub with_type-after-requires : goal.with_type-after-requires
with_type-after-requires c = load_register _ _ _ _ _ _ (rw c.in-Load.is at c.requires.0.1.ok)

pub check_moves-requires : goal.check_moves-requires
check_moves-requires c = let s = c in (turned_sized s.requires.0.1, s.requires.1)

pub check_moves-requires-in-Store : goal.check_moves-requires-in-Store
check_moves-requires-in-Store c = let s = c in (turned_sized s.requires.0.1, s.requires.1)

pub check_whole-requires : goal.check_whole-requires
check_whole-requires c = whole_ok_lem _ _ (rw c.in-Whole.is at c.requires.0.1.ok)

pub returns-in-Nothing : goal.returns-in-Nothing
unfolding checked_step
returns-in-Nothing c =
    let s = c in
    let g = c.in-Nothing.is in
    record {
      entries_len = s.requires.1;
      value = λ tensors q. rw g c.plain_check.ensures;
      told = λ z. told_none s.args.access s.args.entries.now (nothing_bare s.requires.0.0 _ _ s.requires.0.1.access g);
    }

pub returns-in-Load : goal.returns-in-Load
returns-in-Load c =
    let s = c in
    let e = c.check_moves.ensures in
    let g = c.in-Load.is in
    let t = c.the_type-t.ensures ∙ ap (the_type s.args.types) c.object_register.ensures in
    let after = c.with_type-after.ensures ∙ ap (with_type s.args.types c.in-Load.register) t in
    record {
      entries_len = e.entries_len;
      value = λ tensors q. rw g (load_check_lem _ tensors _ _ _ _ _ (rw g at q) after e.value);
      told = e.told;
    }

pub returns-in-Store : goal.returns-in-Store
returns-in-Store c =
    let e = c.check_moves-in-Store.ensures in
    let g = c.in-Store.is in
    record {
      entries_len = e.entries_len;
      value = λ tensors q. rw g (store_check_lem _ tensors _ _ _ _ (rw g at q) e.value);
      told = e.told;
    }

pub returns-in-Whole : goal.returns-in-Whole
unfolding checked_step
returns-in-Whole c =
    let s = c in
    let g = c.in-Whole.is in
    record {
      entries_len = s.requires.1;
      value = λ tensors q. rw g c.check_whole.ensures;
      told = λ z. told_none s.args.access s.args.entries.now (whole_bare s.requires.0.0 _ _ s.requires.0.1.access g);
    }
