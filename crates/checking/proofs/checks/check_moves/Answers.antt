use mathlib.Core.Path.{◌≡◌, sym, ap, ◌∙◌}
use borrow.Author.Tests.{eq-eqb, ne_eqb}
use Rattle.numbers.specs.Laws.Choice.{taken, left}
use Rattle.checking.specs.Steps.{access_check, moved_check}
use Rattle.checking.specs.declared.StepCheck.{StepCheck}
use native.Mathlib.Omega.{arith}
use Rattle.checking.proofs.checks.check_moves.Goals as goal

pub returns-then-access-lt1 : goal.returns-then-access-lt1
unfolding access_check
returns-then-access-lt1 c =
    let s = c in
    let z : s.args.access.rows ≡ 0 = omega (arith, c.if-access-lt1.true) in
    let e = c.plain_check.ensures in
    record {
      entries_len = s.requires.1;
      value = λ t q. taken _ (eq-eqb _ 0 (sym q ∙ z)) e;
      told = λ q. absurd (omega (arith, ap (λ (x : StepCheck). x.stop.number) e, q));
    }

pub check_access-c-requires : goal.check_access-c-requires
check_access-c-requires c = let s = c in (s.requires.0 (omega (arith, c.if-access-lt1.false)), s.requires.1)

pub returns : goal.returns
unfolding access_check
returns c =
    let s = c in
    let k = c.check_access-c.ensures in
    record {
      entries_len = k.entries_len;
      value = λ t q. left _ (ne_eqb t.rows 0 (λ z. omega (arith, c.if-access-lt1.false, q, z))) (ap (moved_check s.args.after) k.value);
      told = k.told;
    }
