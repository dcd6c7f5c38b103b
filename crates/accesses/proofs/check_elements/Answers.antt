use mathlib.Core.Path.{ap, ◌∙◌}
use native.Mathlib.Omega.{arith}
use Rattle.numbers.specs.Laws.Choice.{went}
use Rattle.addressing.specs.Laws.Plans.{plan_count}
use Rattle.clashes.specs.Laws.Clashes.{apart_none, apart_found}
use Rattle.accesses.proofs.Laws.Surveys.{element_near, surveyed_told}
use Rattle.accesses.proofs.Laws.{number, clash_surveyed, checked_refused, checked_load, checked_clash, checked_apart}
use Rattle.accesses.proofs.check_elements.Goals as goal
use Rattle.accesses.proofs.check_elements.Goals.{then-p-via-then-p, then-p-via-else-p+then-bytes_apart}

pub returns-then-s-ne0-clause-value : goal.returns-then-s-ne0-clause-value
returns-then-s-ne0-clause-value c = c.refuse.ensures ∙ checked_refused _ _ _ c.survey-s.ensures.stop c.if-s-ne0.true

pub returns-then-p-clause-value : goal.returns-then-p-clause-value
returns-then-p-clause-value c =
    let p = c.args.p in
    let s = c.survey-s.ensures in
    let z = c.if-s-ne0.false in
    c.accept.ensures
    ∙ elim c.then-p.branch [
      | then-p-via-then-p w ↦ checked_load _ _ _ s.stop z w.if-p.true (s.placed z)
      | then-p-via-else-p+then-bytes_apart w ↦
          let e = plan_count p c.requires.0 in
          checked_apart _ _ _ s.stop z _ w.if-p.false (clash_surveyed (element_near p.access c.requires.0.valid.sized) s z)
          (apart_none _ _ (rw e at (went w.bytes_apart.ensures w.if-bytes_apart.true))) (s.placed z)
    ]

pub returns-then-p-clause-told : goal.returns-then-p-clause-told
returns-then-p-clause-told c = λ e. surveyed_told _ c.requires.0 c.survey-s.ensures c.if-s-ne0.false

pub returns : goal.returns
returns c =
    let p = c.args.p in
    let e = plan_count p c.requires.0 in
    let s = c.survey-s.ensures in
    let z = c.if-s-ne0.false in
    let i = rw e at c.first_clash.ensures in
    let q = clash_surveyed (element_near p.access c.requires.0.valid.sized) s z in
    record {
      entries_len = s.room;
      value = c.refuse-2.ensures
          ∙ checked_clash _ _ _ s.stop z _ c.if-p.false (i ∙ q) (rw i (apart_found _ _ (rw e at (went c.bytes_apart.ensures c.if-bytes_apart.false))));
      told = λ e. absurd (omega (arith, ap number c.refuse-2.ensures, e));
    }
