use mathlib.Core.Path.{◌∙◌}
use Rattle.numbers.specs.Laws.Choice.{went, tests}
use Rattle.addressing.specs.Laws.Plans.{planned_access}
use Rattle.accesses.proofs.Laws.Accepted.{ranks_agree}
use Rattle.accesses.proofs.Laws.{access_nine, access_ten, access_eleven, access_elements}
use Rattle.accesses.proofs.check_access.Goals as goal

pub returns-then-a-ne0-clause-value : goal.returns-then-a-ne0-clause-value
returns-then-a-ne0-clause-value c = c.refuse.ensures ∙ access_nine _ (search tests)

pub returns-then-other_rank-clause-value : goal.returns-then-other_rank-clause-value
returns-then-other_rank-clause-value c = c.refuse-then-other_rank.ensures ∙ access_ten _ (search tests) (search tests)

pub returns-then-store_blocked-clause-value : goal.returns-then-store_blocked-clause-value
returns-then-store_blocked-clause-value c = c.refuse-then-store_blocked.ensures ∙ access_eleven _ (search tests) (search tests) (search tests)

pub plan_of-requires : goal.plan_of-requires
plan_of-requires c =
    record {
      sized = c.requires.0;
      ranks = ranks_agree _ (went c.other_rank.ensures c.if-other_rank.false);
    }

pub returns : goal.returns
returns c =
    let p = planned_access _ c.plan_of.ensures.0 in
    let e = c.check_elements.ensures in
    record {
      entries_len = e.entries_len;
      value = (rw p at e.value) ∙ access_elements _ (search tests) (search tests) (search tests);
      told = λ z. rw p at (e.told z);
    }
