use Rattle.accesses.proofs.RowLaws.{tail_few}
use Rattle.accesses.proofs.Laws.{passed_none, passed_stop, passed_more, passed_end}
use Rattle.addressing.specs.Laws.Plans.{plan_count}
use Rattle.accesses.proofs.Laws.Surveys.{element_near}
use Rattle.accesses.specs.Refusals.{element_outcome, placed_count}
use mathlib.Core.Path.{refl, ap, ◌∙◌}
use borrow.Author.Rules.{rules}
use native.Mathlib.Omega.{arith}
use Rattle.accesses.proofs.survey.Goals as goal

pub by_rows-requires : goal.by_rows-requires
by_rows-requires c = tail_few c.args.p c.requires.0

pub loop-k-init : goal.loop-k-init
loop-k-init c = passed_none _ _ _ c.requires.0.few c.requires.1

pub locate-r-requires : goal.locate-r-requires
locate-r-requires c =
    record {
      planned = (c.requires.0, rw (← plan_count c.args.p c.requires.0) c.loop-k-test.true);
      permutation_value = (refl, refl, refl, refl);
    }

pub returns-then-r-ne0 : goal.returns-then-r-ne0
unfolding element_outcome
returns-then-r-ne0 c = let i = c.loop-k in
    let e = c.locate-r in
    rw (← plan_count c.args.p c.requires.0)
    record {
      room = i.invariant.room;
      stop = passed_stop _ i.invariant e.result c.loop-k-test.true e.ensures c.if-r-ne0.true;
      placed = λ z. absurd (c.if-r-ne0.true z);
      each = λ z. absurd (c.if-r-ne0.true z);
    }

pub entry-requires : goal.entry-requires
unfolding element_outcome
entry-requires c =
    rw c.locate-r.ensures (element_near c.args.p.access c.requires.0.valid.sized c.loop-k.k)

pub loop-k-preserved : goal.loop-k-preserved
unfolding element_outcome
loop-k-preserved c = let i = c.loop-k in
    let e = c.locate-r in
    passed_more _ i.invariant e.result c.loop-k-test.true e.ensures (search rules) c.entry.ensures c.placed_one-placed.ensures.0 c.placed_one-placed.ensures.1

pub returns : goal.returns
returns c = let i = c.loop-k in
    rw (← plan_count c.args.p c.requires.0)
    record {
      room = i.invariant.room;
      stop = passed_end _ i.invariant c.loop-k-test.false;
      placed = λ z. i.invariant.count ∙ ap (placed_count _) (omega (arith, i.invariant.inside));
      each = λ z k h. i.invariant.each k (omega arith);
    }
