-- Rule 3 at a dimension, by the way that the code took; and the loop over the dimensions.
use Prim.Native.Nat.{ℕ, zero, suc, ◌+◌, ◌-◌, ◌/◌, ◌%◌, ◌<◌, ◌≤◌, min}
use mathlib.Core.Path.{◌≡◌, refl, sym, ◌∙◌}
use mathlib.Core.List.{List}
use native.Mathlib.Nat.{mod-eq_of_lt, div-eq_of_lt, not-suc-le-zero, min-le_right}
use native.Mathlib.Omega.{arith}
use lib.Dec.{ltb}
use lib.ListN.{length, set, replicate, length-set}
use borrow.Author.Tests.{lt-ltb, le-ltb, ltb-true, ltb-false}
use Rattle.numbers.specs.Choice.{pick, both}
use Rattle.numbers.specs.Laws.Choice.{by_test, both_true}
use Rattle.sheet.specs.Sizes.{rank_places}
use Rattle.sheet.specs.declared.Layout.{Layout}
use Rattle.view_indices.specs.Indices.{span_of}
use Rattle.spans.specs.declared.Split.{Split}
use Rattle.spans.specs.declared.Divided.{Divided}
use Rattle.spans.specs.Spans.{divides, undivided, split_by, with_split, divided_from, divided}
use Rattle.spans.specs.Laws.Splits.{split_most}

module _ (span index : ℕ) where
  divided_there : 1 < span → 0 < index → split_by span index ≡ record { rest = index % span; quotient = index / span; divisions = 1 }
  unfolding split_by divides pick
  divided_there s i = rw (both_true (ltb 1 span) (ltb 0 index) (lt-ltb 1 span s) (lt-ltb 0 index i))

  pub split_one : span ≤ 1 → split_by span index ≡ undivided index
  unfolding split_by divides both pick
  split_one s = rw (le-ltb 1 span s)

  abbrev below : Split
  below = record { rest = index; quotient = 0; divisions = pick (ltb 0 index) 1 0 }

  below_some : index < span → 0 < index → below ≡ split_by span index
  unfolding pick
  below_some h i = rw (divided_there (omega arith) i, mod-eq_of_lt h, div-eq_of_lt h, lt-ltb 0 index i)

  below_none : index ≡ 0 → below ≡ split_by span index
  unfolding split_by divides both pick
  below_none z = by_test (ltb 1 span) (λ s. rw (z, s)) (λ s. rw (z, s))

  pub split_below : index < span → below ≡ split_by span index
  split_below h = by_test (ltb 0 index) (λ t. below_some h (ltb-true 0 index t)) (λ t. below_none (omega (arith, ltb-false 0 index t)))

  pub split_above : span ≤ index → 1 < span → record { rest = index % span; quotient = index / span; divisions = 1 } ≡ split_by span index
  split_above h s = sym (divided_there s (omega arith))

module _ (span : ℕ → ℕ) where
  divided_last : (d left : ℕ) (r : Divided) → 0 < d
      → divided_from span (d - 1) (split_by (span (d - 1)) left).quotient (with_split r (d - 1) (split_by (span (d - 1)) left)) ≡ divided_from span d left r
  unfolding divided_from
  divided_last zero left r h = absurd (not-suc-le-zero h)
  divided_last (suc d) left r h = let e : suc d - 1 ≡ d = omega arith in rw e refl

  divided_end : (d left : ℕ) (r : Divided) → d ≤ 0 → r ≡ divided_from span d left r
  unfolding divided_from
  divided_end zero left r h = refl
  divided_end (suc d) left r h = absurd (not-suc-le-zero h)

-- The loop over the dimensions: those from d on are done; `left` is what is left of the index.
pub record Dividing (span : ℕ → ℕ) (whole : Divided) (coordinates : List ℕ) (divisions left d : ℕ) : Type 0 where
  pub seldom : divisions + d ≤ rank_places
  pub long : length coordinates ≡ rank_places
  pub goes : divided_from span d left (record { coordinates = coordinates; divisions = divisions }) ≡ whole

module _ (span : ℕ → ℕ) (whole : Divided) (coordinates : List ℕ) (divisions left d : ℕ) where
  pub dividing_more : Dividing span whole coordinates divisions left d → 0 < d
      → Dividing span whole (set coordinates (d - 1) (split_by (span (d - 1)) left).rest) (divisions + (split_by (span (d - 1)) left).divisions) (split_by (span (d - 1)) left).quotient (d - 1)
  dividing_more w h =
      record {
        seldom = omega (arith, w.seldom, split_most (span (d - 1)) left);
        long = length-set coordinates (d - 1) (split_by (span (d - 1)) left).rest ∙ w.long;
        goes = divided_last span d left (record { coordinates = coordinates; divisions = divisions }) h ∙ w.goes;
      }

  pub dividing_end : Dividing span whole coordinates divisions left d → d ≤ 0 → record { coordinates = coordinates; divisions = divisions } ≡ whole
  dividing_end w h = divided_end span d left _ h ∙ w.goes

pub dividing_start : (l : Layout) (index : ℕ) → Dividing (span_of l) (divided l index) (replicate rank_places 0) 0 index (min l.rank rank_places)
unfolding divided
dividing_start l index = record { seldom = omega (arith, min-le_right l.rank rank_places); long = refl; goes = refl }
