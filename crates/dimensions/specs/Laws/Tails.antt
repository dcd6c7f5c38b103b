-- The leading dimensions that are fixed, and the numbers of those after them.
use Prim.Native.Nat.{ℕ, zero, suc, ◌+◌, ◌-◌, ◌*◌, ◌/◌, ◌<◌, ◌≤◌}
use Rattle.std.specs.Prelude.{◌≡◌, refl, Bool, true, not, ltb, eqb, length}
use Rattle.std.proofs.Math.Path.{ap}
use Rattle.std.proofs.Common.{◌∙◌, add-zero, div-le_self, mul-le-mul}
use Rattle.std.proofs.Math.Nat.{zero-add}
use native.Mathlib.Omega.{arith}
use Rattle.std.proofs.Math.ListN.{get_or}
use borrow.Author.Tests.{ltb-true, eqb-true, not-false}
use Rattle.numbers.specs.First.{first_from}
use Rattle.numbers.specs.Laws.Choice.{both_left, both_right, pick_case}
use Rattle.numbers.specs.Laws.First.{first_before}
use Rattle.numbers.specs.Laws.Lines.{line_inside}
use Rattle.tensor_ranges.specs.Layouts.{the_dimension, layout_ok}
use Rattle.tensor_ranges.specs.Laws.Facts.{layout_most}
use Rattle.sheet.specs.Sizes.{rank_places, size_limit}
use Rattle.sheet.specs.declared.Dimension.{Dimension}
use Rattle.sheet.specs.declared.Layout.{Layout}
use Rattle.dimensions.specs.Dimensions.{dimension_numbers, dimension_in, layout_numbers, fixed, lead, tail_numbers, part_limit}

-- what a coordinate inside a dimension adds is below 4,096 times 65,536
pub part_most : {x n stride : ℕ} (block : ℕ) → x < n → n ≤ size_limit → stride < 65536 → x / block * stride ≤ part_limit
part_most {x} block h m t = mul-le-mul {n₂ = size_limit} {m₂ = 65536} (omega (arith, div-le_self x block)) (omega arith)

-- the first number that passes a test is among those tried, or right behind them
first_most : (test : ℕ → Bool) (k m : ℕ) → first_from test k m ≤ k + m
unfolding first_from
first_most test k zero = omega arith
first_most test k (suc m) = pick_case (λ (x : ℕ). x ≤ k + suc m) (test k) _ _ (λ t. omega arith) (λ t. omega (arith, first_most test (suc k) m))

-- a fixed dimension
module _ (d : Dimension) (e : fixed d ≡ true) where
  pub fixed_span : d.span ≡ 1
  unfolding fixed
  fixed_span = eqb-true d.span 1 (both_left (eqb d.span 1) (ltb d.offset d.size) e)

  pub fixed_inside : d.offset < d.size
  unfolding fixed
  fixed_inside = ltb-true d.offset d.size (both_right (eqb d.span 1) (ltb d.offset d.size) e)

module _ (l : Layout) where
  abbrev dimension : ℕ → Dimension
  dimension i = the_dimension l.dimensions i

  abbrev loose : ℕ → Bool
  loose i = not (fixed (dimension i))

  pub lead_most : lead l ≤ l.rank
  unfolding lead
  lead_most = omega (arith, first_most loose 0 l.rank)

  pub lead_fixed : (i : ℕ) → i < lead l → fixed (the_dimension l.dimensions i) ≡ true
  unfolding lead
  lead_fixed i h = not-false (fixed (dimension i)) (first_before loose 0 l.rank i (omega arith) h)

-- the numbers of a layout have its dimensions
pub numbers_dimension : (l : Layout) (d : ℕ) → d < rank_places → dimension_in (layout_numbers l) (dimension_numbers * d) ≡ the_dimension l.dimensions d
unfolding layout_numbers
numbers_dimension l zero h = refl
numbers_dimension l (suc zero) h = refl
numbers_dimension l (suc (suc zero)) h = refl
numbers_dimension l (suc (suc (suc zero))) h = refl
numbers_dimension l (suc (suc (suc (suc zero)))) h = refl
numbers_dimension l (suc (suc (suc (suc (suc d))))) h = absurd (omega arith)

length_numbers : (l : Layout) → length (layout_numbers l) ≡ rank_places * dimension_numbers
unfolding layout_numbers
length_numbers l = refl

module _ (l : Layout) (ok : layout_ok l ≡ true) where
  module _ (d : ℕ) (h : d < l.rank - lead l) where
    number : (j : ℕ) → j < dimension_numbers → get_or (tail_numbers l) (dimension_numbers * d + j) 0 ≡ get_or (layout_numbers l) (dimension_numbers * (lead l + d) + j) 0
    unfolding tail_numbers
    number j m =
        let ns = layout_numbers l in
        let g : ℕ → ℕ = λ k. get_or ns (dimension_numbers * lead l + k) 0 in
        let i = dimension_numbers * d + j in
        let inside = line_inside ns 0 g (dimension_numbers * (l.rank - lead l)) i 0 (omega arith) (omega (arith, length_numbers l, layout_most l ok, lead_most l)) in
        let e : dimension_numbers * lead l + i ≡ dimension_numbers * (lead l + d) + j = omega arith in
        (rw zero-add at inside) ∙ ap (λ (k : ℕ). get_or ns k 0) e

    -- the dimensions after them, by their numbers
    pub tail_dimension : dimension_in (tail_numbers l) (dimension_numbers * d) ≡ the_dimension l.dimensions (lead l + d)
    tail_dimension =
        let first : get_or (tail_numbers l) (dimension_numbers * d) 0 ≡ get_or (layout_numbers l) (dimension_numbers * (lead l + d)) 0 = rw (add-zero (dimension_numbers * d), add-zero (dimension_numbers * (lead l + d))) at (number 0 (omega arith)) in
        rw (first, number 1 (omega arith), number 2 (omega arith), number 3 (omega arith), number 4 (omega arith))
        (numbers_dimension l (lead l + d) (omega (arith, layout_most l ok, lead_most l)))
