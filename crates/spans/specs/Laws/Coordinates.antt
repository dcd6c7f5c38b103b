-- Rule 3's coordinates, one by one.
use Prim.Native.Nat.{ℕ, zero, suc, ◌/◌, ◌%◌, ◌<◌, ◌≤◌}
use Rattle.std.specs.Prelude.{◌≡◌, List, length, set, replicate}
use Rattle.std.proofs.Math.Path.{refl}
use Rattle.std.proofs.Common.{◌∙◌, mod-lt, not-suc-le-zero, get_or-set_same}
use Rattle.std.proofs.Math.Nat.{mod-one}
use native.Mathlib.Omega.{arith}
use Rattle.std.proofs.Math.ListN.{get_or, length-set}
use Rattle.std.proofs.Math.Seq.{get_or-set_other}
use Rattle.numbers.specs.Laws.Choice.{by_place}
use Rattle.sheet.specs.Sizes.{rank_places}
use Rattle.sheet.specs.declared.Layout.{Layout}
use Rattle.view_indices.specs.Indices.{span_of, coordinates}
use Rattle.spans.specs.Spans.{span_coordinates}

module _ (size : ℕ → ℕ) where
  abbrev found : ℕ → ℕ → List ℕ → List ℕ
  found k index cs = coordinates (λ (d : ℕ). d) size k index cs

  -- the coordinates of later dimensions are not touched
  pub coordinates_keep : (k index : ℕ) (cs : List ℕ) (i : ℕ) → k ≤ i → get_or (coordinates (λ (d : ℕ). d) size k index cs) i 0 ≡ get_or cs i 0
  unfolding coordinates
  coordinates_keep zero index cs i h = refl
  coordinates_keep (suc k) index cs i h =
      let q : i ≡ k → ⊥ = λ r. omega arith in
      coordinates_keep k (index / size k) (set cs k (index % size k)) i (omega arith) ∙ get_or-set_other cs k i (index % size k) 0 q

  -- each of k is a remainder by its size
  coordinates_rest : (P : ℕ → Type 0) (k index : ℕ) (cs : List ℕ) (i : ℕ) → k ≤ length cs → i < k → ((x : ℕ) → P (x % size i)) → P (get_or (found k index cs) i 0)
  unfolding coordinates
  coordinates_rest P zero index cs i m h p = absurd (not-suc-le-zero h)
  coordinates_rest P (suc k) index cs i m h p =
      let rest = index % size k in
      by_place i k
      (λ q.
      let e : get_or (found k (index / size k) (set cs k rest)) i 0 ≡ index % size i =
      coordinates_keep k (index / size k) (set cs k rest) i (omega arith) ∙ rw q (get_or-set_same cs k rest 0 (omega arith)) in
      rw e (p index))
      (λ q. coordinates_rest P k (index / size k) (set cs k rest) i (omega (arith, length-set cs k rest)) (omega arith) p)

module _ (l : Layout) (index i : ℕ) (m : l.rank ≤ rank_places) (h : i < l.rank) where
  coordinate_rest : (P : ℕ → Type 0) → ((x : ℕ) → P (x % span_of l i)) → P (get_or (span_coordinates l index) i 0)
  unfolding span_coordinates
  coordinate_rest P p = coordinates_rest (span_of l) P l.rank index (replicate rank_places 0) i m h p

  -- it is below its span, and 0 where the span is 1
  pub coordinate_below : 0 < span_of l i → get_or (span_coordinates l index) i 0 < span_of l i
  coordinate_below s = coordinate_rest (λ (c : ℕ). c < span_of l i) (λ x. mod-lt x s)

  pub coordinate_one : span_of l i ≡ 1 → get_or (span_coordinates l index) i 0 ≡ 0
  coordinate_one e = coordinate_rest (λ (c : ℕ). c ≡ 0) (λ x. rw e (mod-one x))
