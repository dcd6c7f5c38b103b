use Rattle.addressing.proofs.Laws.{view_sizes_in, plan_width, plan_sizes, plan_strides, column_few, columns_few}
use Rattle.addressing.specs.Rules.{indexed}
use Rattle.addressing.specs.declared.Indexed.TheVariants.{Index}
use Rattle.numbers.specs.Laws.Choice.{taken, left, tests}
use native.Mathlib.Nat.{min-le_left, div-le_self, div-add-mod'}
use mathlib.Core.Path.{◌≡◌, refl, ap, sym, ◌∙◌}
use mathlib.Core.Bool.{true}
use native.Mathlib.Omega.{arith}
use Rattle.addressing.proofs.index_of.Goals as goal

pub returns-then-not-p : goal.returns-then-not-p
unfolding indexed
returns-then-not-p c = left _ (search tests) (ap Index (c.from.ensures ∙ sym (div-add-mod' _ _)))

pub returns-then-outside_view : goal.returns-then-outside_view
unfolding indexed
returns-then-outside_view c = taken _ (search tests) (taken _ (search tests) refl)

pub clip_index-index-requires : goal.clip_index-index-requires
clip_index-index-requires c =
    let a = c.args.p.access in
    let k = c.args.k in
    let area = c.requires.planned.0.valid.sized.area in
    (rw (plan_width c.args.p c.requires.planned.0) (omega (arith, min-le_left a.columns a.view.columns.span, columns_few a.rows a.columns k c.requires.planned.1, area)), omega (arith, div-le_self k a.columns, area, c.requires.planned.1), omega (arith, column_few k a.columns, area, c.requires.planned.1), search tests)

pub view_index-requires : goal.view_index-requires
view_index-requires c =
    let e : c.args.p.access.viewed ≡ true = search tests in
    record {
      v_value = (c.requires.planned.0.valid.sized.view e, rw (c.requires.permutation_value.1, plan_sizes c.args.p c.requires.planned.0 e) (view_sizes_in c.args.p.access c.requires.planned.0.valid e), rw c.requires.permutation_value.2 c.requires.planned.0.strides);
      permutation_value = c.requires.permutation_value.0;
    }

pub returns : goal.returns
unfolding indexed
returns c =
    let e : c.args.p.access.viewed ≡ true = search tests in
    taken _ e (left _ (search tests) (ap Index (c.view_index.ensures ∙ rw (c.requires.permutation_value.1, c.requires.permutation_value.2, plan_sizes c.args.p c.requires.planned.0 e, plan_strides c.args.p c.requires.planned.0 e, c.clip_index-index.ensures, plan_width c.args.p c.requires.planned.0))))
