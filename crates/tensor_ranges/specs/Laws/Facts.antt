-- What is known of the numbers of a layout and of a view that keep to Sizes.
use Rattle.std.specs.Prelude.{ℕ, ◌<◌, ◌≤◌, ◌≡◌, Bool, true, get_or, ltb, eqb}
use Rattle.std.proofs.Math.Path.{sym}
use Rattle.std.proofs.Common.{◌∙◌, arith}
use Rattle.std.proofs.Math.Bool.{not}
use borrow.Author.Tests.{lt-ltb, ltb-true, eqb-false, not-true}
use Rattle.numbers.specs.Choice.{pick, both}
use Rattle.numbers.specs.Laws.Choice.{both_left, both_right, between_low, between_high}
use Rattle.numbers.specs.Laws.All.{all_at}
use Rattle.sheet.specs.Sizes.{rank_places, rank_ok, size_limit, size_ok, offset_ok}
use Rattle.tensor_ranges.specs.Layouts.{the_dimension, dimension_ok, dimension_at_ok, dimensions_ok, layout_ok}
use Rattle.tensor_ranges.specs.Views.{the_view_dimension, fresh, entry_ok, permutation_ok, view_dimension_at_ok, view_dimensions_ok, sized_rank, view_ok}
use Rattle.sheet.specs.declared.Dimension.{Dimension}
use Rattle.sheet.specs.declared.Layout.{Layout}
use Rattle.sheet.specs.declared.View.{View}

-- a number from 1 to 4,096
pub record InSize (x : ℕ) : Type 0 where
  pub some : 0 < x
  pub most : x ≤ size_limit

in_size : (x : ℕ) → size_ok x ≡ true → InSize x
in_size x e = record { some = between_low 1 size_limit x e; most = between_high 1 size_limit x e }

taken_way : {A : Type 0} {b : Bool} (x y : A) → b ≡ true → pick b x y ≡ x
unfolding pick
taken_way x y e = rw e

-- a layout's count of dimensions, and the numbers of each dimension
module _ (l : Layout) (ok : layout_ok l ≡ true) where
  pub layout_some : 0 < l.rank
  unfolding layout_ok
  layout_some = between_low 1 rank_places l.rank (both_left (rank_ok l.rank) (dimensions_ok l.rank l.dimensions) ok)

  pub layout_most : l.rank ≤ rank_places
  unfolding layout_ok
  layout_most = between_high 1 rank_places l.rank (both_left (rank_ok l.rank) (dimensions_ok l.rank l.dimensions) ok)

  module _ (i : ℕ) (h : i < l.rank) where
    abbrev the : Dimension
    the = the_dimension l.dimensions i

    layout_dimension : dimension_ok the ≡ true
    unfolding layout_ok dimension_at_ok
    layout_dimension =
        sym (taken_way _ _ (lt-ltb i l.rank h))
        ∙ all_at rank_places (dimension_at_ok l.rank l.dimensions) (both_right (rank_ok l.rank) (dimensions_ok l.rank l.dimensions) ok) i
        (omega (arith, layout_most))

    pub layout_block : InSize (the_dimension l.dimensions i).block
    unfolding dimension_ok
    layout_block =
        in_size the.block
        (both_left (size_ok the.block) (both (size_ok the.size) (both (offset_ok the.offset) (size_ok the.span))) layout_dimension)

    past_block : both (size_ok the.size) (both (offset_ok the.offset) (size_ok the.span)) ≡ true
    unfolding dimension_ok
    past_block =
        both_right (size_ok the.block) (both (size_ok the.size) (both (offset_ok the.offset) (size_ok the.span))) layout_dimension

    pub layout_size : InSize (the_dimension l.dimensions i).size
    layout_size = in_size the.size (both_left (size_ok the.size) (both (offset_ok the.offset) (size_ok the.span)) past_block)

    pub layout_span : InSize (the_dimension l.dimensions i).span
    layout_span =
        in_size the.span
        (both_right (offset_ok the.offset) (size_ok the.span) (both_right (size_ok the.size) (both (offset_ok the.offset) (size_ok the.span)) past_block))

-- a view's count of dimensions, its permutation entries, and the view dimensions of one that has them
module _ (v : View) (ok : view_ok v ≡ true) where
  abbrev sized_ok : Bool
  sized_ok = view_dimensions_ok (sized_rank v.sized v.rank) v.dimensions

  pub view_some : 0 < v.rank
  unfolding view_ok
  view_some = between_low 1 rank_places v.rank (both_left (rank_ok v.rank) (both (permutation_ok v.rank v.permutation) sized_ok) ok)

  pub view_most : v.rank ≤ rank_places
  unfolding view_ok
  view_most = between_high 1 rank_places v.rank (both_left (rank_ok v.rank) (both (permutation_ok v.rank v.permutation) sized_ok) ok)

  past_rank : both (permutation_ok v.rank v.permutation) sized_ok ≡ true
  unfolding view_ok
  past_rank = both_right (rank_ok v.rank) (both (permutation_ok v.rank v.permutation) sized_ok) ok

  module _ (k : ℕ) (h : k < v.rank) where
    entry_given : both (ltb (get_or v.permutation k 0) v.rank) (fresh v.permutation k) ≡ true
    unfolding entry_ok
    entry_given =
        sym (taken_way _ _ (lt-ltb k v.rank h))
        ∙ all_at rank_places (entry_ok v.rank v.permutation) (both_left (permutation_ok v.rank v.permutation) sized_ok past_rank) k
        (omega (arith, view_most))

    pub view_entry : get_or v.permutation k 0 < v.rank
    view_entry =
        ltb-true (get_or v.permutation k 0) v.rank
        (both_left (ltb (get_or v.permutation k 0) v.rank) (fresh v.permutation k) entry_given)

    pub view_apart : (j : ℕ) → j < k → get_or v.permutation j 0 ≡ get_or v.permutation k 0 → ⊥
    unfolding fresh
    view_apart j l =
        eqb-false (get_or v.permutation j 0) (get_or v.permutation k 0)
        (not-true _
        (all_at k (λ (i : ℕ). not (eqb (get_or v.permutation i 0) (get_or v.permutation k 0)))
        (both_right (ltb (get_or v.permutation k 0) v.rank) (fresh v.permutation k) entry_given) j l))

    pub view_size : v.sized ≡ true → InSize (the_view_dimension v.dimensions k).size
    unfolding view_dimension_at_ok sized_rank
    view_size e =
        in_size (the_view_dimension v.dimensions k).size
        (sym (taken_way _ _ (lt-ltb k (sized_rank v.sized v.rank) (rw (taken_way v.rank 0 e) h)))
        ∙ all_at rank_places (view_dimension_at_ok (sized_rank v.sized v.rank) v.dimensions)
        (both_right (permutation_ok v.rank v.permutation) sized_ok past_rank) k (omega (arith, view_most)))
