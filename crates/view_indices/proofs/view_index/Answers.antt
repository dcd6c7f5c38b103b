use Rattle.sheet.specs.Sizes.{rank_places}
use Rattle.view_indices.proofs.Loops.{weighing_start, weighing_more, weighing_end, product_most}
use Rattle.view_indices.specs.Indices.{view_index, view_coordinates}
use Rattle.tensor_ranges.specs.Laws.Facts.{InSize, view_most, view_entry, view_apart}
use lib.ListN.{get_or}
use mathlib.Core.Path.{◌≡◌}
use Prim.Native.Nat.{ℕ, ◌-◌, ◌<◌}
use native.Mathlib.Omega.{arith}
use Rattle.view_indices.proofs.view_index.Goals as goal
use Rattle.view_indices.proofs.view_index.Goals.{After-from-i}

-- the place of the view's dimension k - 1
module _ (c : After-from-i) where
  in_rank : c.from-i.result < c.args.v.rank
  in_rank =
      let e = view_entry c.args.v c.requires.v_value.0 (c.loop-k.k - 1) (omega arith) in
      rw (c.from-i.ensures, c.requires.permutation_value) e

  in_places : c.from-i.result < rank_places
  in_places = omega (arith, in_rank, view_most c.args.v c.requires.v_value.0)

  in_size : InSize (get_or c.args.sizes.now c.from-i.result 0)
  in_size = c.requires.v_value.1 _ in_rank

  apart : (j : ℕ) → j < c.loop-k.k - 1 → get_or c.args.permutation.now j 0 ≡ c.from-i.result → ⊥
  apart j h e = view_apart c.args.v c.requires.v_value.0 (c.loop-k.k - 1) (omega arith) j h (rw (c.from-i.ensures, c.requires.permutation_value) at e)

pub loop-k-init : goal.loop-k-init
loop-k-init c = weighing_start _ _ _ _ _

pub bounds-sizes-i : goal.bounds-sizes-i
bounds-sizes-i c = in_places (goal.at.bounds-sizes-i c).After-from-i

pub divide-s-requires : goal.divide-s-requires
divide-s-requires c = (in_size (goal.at.divide-s-requires c).After-from-i).some

pub bounds-strides-i : goal.bounds-strides-i
bounds-strides-i c = in_places (goal.at.bounds-strides-i c).After-from-i

pub overflow_mul-sum : goal.overflow_mul-sum
overflow_mul-sum c =
    let small = product_most c.loop-k.left (in_size (goal.at.overflow_mul-sum c).After-from-i) (c.requires.v_value.2 c.from-i.result) in
    rw (c.from.ensures, c.divide-s.ensures.0) (omega (arith, small))

pub overflow_add-sum : goal.overflow_add-sum
overflow_add-sum c =
    let small = product_most c.loop-k.left (in_size (goal.at.overflow_add-sum c).After-from-i) (c.requires.v_value.2 c.from-i.result) in
    rw (c.from.ensures, c.divide-s.ensures.0) (omega (arith, small, c.loop-k.invariant.small, view_most c.args.v c.requires.v_value.0))

pub loop-k-preserved : goal.loop-k-preserved
loop-k-preserved c =
    let d = (goal.at.loop-k-preserved c).After-from-i in
    rw (c.divide-s.ensures.1, c.from.ensures, c.divide-s.ensures.0)
    (weighing_more _ _ _ _ _ c.loop-k.invariant (omega arith) (omega arith) c.from-i.ensures (omega (arith, view_most c.args.v c.requires.v_value.0)) (rw c.from-k.ensures (in_rank d)) (in_size d) (c.requires.v_value.2 _) (apart d))

pub returns : goal.returns
unfolding view_index view_coordinates
returns c = rw (← c.requires.permutation_value, ← c.from-k.ensures) (weighing_end _ _ _ _ _ _ _ _ c.loop-k.invariant (omega arith))
