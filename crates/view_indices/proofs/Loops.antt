-- Rule 2 as a loop from the last dimension to the first, which keeps no coordinates.
use Prim.Native.Nat.{ℕ, zero, suc, ◌+◌, ◌-◌, ◌*◌, ◌/◌, ◌%◌, ◌^◌, ◌<◌, ◌≤◌}
use mathlib.Core.Path.{◌≡◌, refl, sym, ap, ◌∙◌}
use mathlib.Core.List.{List}
use native.Mathlib.Nat.{add-zero, zero-mul, mod-lt, mul-le-mul, not-suc-le-zero}
use native.Mathlib.Omega.{arith}
use lib.ListN.{length, get_or, set, replicate, length-set}
use lib.Seq.{get_or-set_same, get_or-set_other}
use Rattle.numbers.specs.Laws.Choice.{by_place}
use Rattle.numbers.specs.Laws.Places.{none_all}
use Rattle.tensor_ranges.specs.Laws.Facts.{InSize}
use Rattle.sheet.specs.Sizes.{rank_places, size_limit}
use Rattle.view_indices.specs.Indices.{coordinates, weighted}
use Rattle.view_indices.specs.Laws.Indices.{coordinates_more, coordinates_end}

-- Rule 2: a coordinate where there was none adds its product
module _ (cs strides : List ℕ) (i x : ℕ) where
  weighted_skip : (n : ℕ) → n ≤ i → weighted (set cs i x) strides n ≡ weighted cs strides n
  unfolding weighted
  weighted_skip zero h = refl
  weighted_skip (suc n) h =
      let q : n ≡ i → ⊥ = λ r. omega arith in
      rw (weighted_skip n (omega arith), get_or-set_other cs i n x 0 q)

  last_sum : (a b c : ℕ) → a + b + c ≡ a + c + b
  last_sum a b c = omega arith

  weighted_set : (n : ℕ) → i < n → i < length cs → get_or cs i 0 ≡ 0 → weighted (set cs i x) strides n ≡ weighted cs strides n + x * get_or strides i 0
  unfolding weighted
  weighted_set zero h l e = absurd (not-suc-le-zero h)
  weighted_set (suc n) h l e =
      by_place i n
      (λ q.
      let f : get_or cs n 0 ≡ 0 = rw q at e in
      rw (f, zero-mul, add-zero, ← weighted_skip n (omega arith), ← q) (rw (get_or-set_same cs i x 0 l)))
      (λ q.
      let r : n ≡ i → ⊥ = λ s. q (sym s) in
      rw (weighted_set n (omega arith) l e, get_or-set_other cs i n x 0 r)
      (last_sum (weighted cs strides n) (x * get_or strides i 0) (get_or cs n 0 * get_or strides n 0)))

weighted_zeros : (strides : List ℕ) (n : ℕ) → weighted (replicate rank_places 0) strides n ≡ 0
unfolding weighted
weighted_zeros strides zero = refl
weighted_zeros strides (suc n) = rw (weighted_zeros strides n, none_all (λ (x : ℕ). x ≡ 0) rank_places 0 0 refl refl n, zero-mul)

-- a product of a coordinate and a stride
pub product_most : (left : ℕ) {size stride : ℕ} → InSize size → stride ≤ size_limit ^ 4 → left % size * stride ≤ size_limit ^ 5
product_most left {size} {stride} s h = mul-le-mul {n₁ = left % size} {m₁ = stride} {n₂ = size_limit} {m₂ = size_limit ^ 4} (omega (arith, mod-lt left s.some, s.most)) h

-- The loop over a view's dimensions: those from k on are done and have a sum; `left` is what is left of the index.
module _ (permutation sizes strides : List ℕ) (rank index : ℕ) where
  abbrev place : ℕ → ℕ
  place j = get_or permutation j 0

  abbrev size : ℕ → ℕ
  size i = get_or sizes i 0

  pub record Weighing (k left sum : ℕ) : Type 0 where
    pub small : sum ≤ (rank - k) * size_limit ^ 5
    pub cs : List ℕ
    pub long : length cs ≡ rank_places
    pub goes : coordinates place size k left cs ≡ coordinates place size rank index (replicate rank_places 0)
    pub weighs : sum ≡ weighted cs strides rank
    pub free : (j : ℕ) → j < k → get_or cs (place j) 0 ≡ 0

  pub weighing_start : Weighing rank index 0
  weighing_start =
      record {
        small = omega arith;
        cs = replicate rank_places 0;
        long = refl;
        goes = refl;
        weighs = sym (weighted_zeros strides rank);
        free = λ j h. none_all (λ (x : ℕ). x ≡ 0) rank_places 0 0 refl refl (place j);
      }

  -- a turn at k - 1, whose dimension's place is i
  module _ {k left sum : ℕ} (w : Weighing k left sum) (h : 0 < k) (l : k ≤ rank) {i : ℕ} (e : i ≡ place (k - 1)) where
    abbrev x : ℕ
    x = left % size i

    pub weighing_more : rank ≤ rank_places → i < rank → InSize (size i) → get_or strides i 0 ≤ size_limit ^ 4 → ((j : ℕ) → j < k - 1 → place j ≡ i → ⊥)
        → Weighing (k - 1) (left / size i) (sum + x * get_or strides i 0)
    weighing_more five inside s most apart =
        let room : i < length w.cs = omega (arith, w.long) in
        record {
          small = omega (arith, w.small, product_most left s most);
          cs = set w.cs i x;
          long = length-set w.cs i x ∙ w.long;
          goes = rw e (coordinates_more place size k left w.cs h) ∙ w.goes;
          weighs = rw w.weighs (sym (weighted_set w.cs strides i x rank inside room (rw e (w.free (k - 1) (omega arith)))));
          free = λ j b. get_or-set_other w.cs i (place j) x 0 (apart j b) ∙ w.free j (omega arith);
        }

  pub weighing_end : (k left sum : ℕ) → Weighing k left sum → k ≤ 0 → sum ≡ weighted (coordinates place size rank index (replicate rank_places 0)) strides rank
  weighing_end k left sum w h = w.weighs ∙ rw (← w.goes) (ap (λ (cs : List ℕ). weighted cs strides rank) (coordinates_end place size k left w.cs h))
