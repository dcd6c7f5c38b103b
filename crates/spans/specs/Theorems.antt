-- Rule 3 with its count is rule 3: the same coordinates, for every layout and every index, and a division exactly where one is needed.
use Prim.Native.Nat.{ℕ, zero, suc, ◌+◌, ◌/◌, ◌<◌}
use Rattle.std.specs.Prelude.{◌≡◌, Bool, true}
use Rattle.std.proofs.Math.Path.{refl, sym}
use Rattle.std.proofs.Common.{◌∙◌, add-zero, arith, lt-ltb, le-ltb}
use Rattle.std.proofs.Math.Nat.{min-eq_left}
use Rattle.numbers.specs.Choice.{pick}
use Rattle.tensor_ranges.specs.Layouts.{layout_ok}
use Rattle.tensor_ranges.specs.Laws.Facts.{layout_most, layout_span}
use Rattle.sheet.specs.declared.Layout.{Layout}
use Rattle.view_indices.specs.Indices.{span_of, coordinates}
use Rattle.spans.specs.declared.Divided.{Divided}
use Rattle.spans.specs.Spans.{span_coordinates, divides, split_by, with_split, divided_from, nothing_divided, divided}
use Rattle.spans.specs.Needed.{how_many, index_at, needed_divisions}
use Rattle.spans.specs.Laws.Splits.{split_rest, split_quotient, split_count}

how_many_same : (f g : ℕ → Bool) (n : ℕ) → ((d : ℕ) → d < n → f d ≡ g d) → how_many f n ≡ how_many g n
unfolding how_many
how_many_same f g zero h = refl
how_many_same f g (suc n) h = rw (how_many_same f g n (λ d l. h d (omega arith)), h n (omega arith))

module _ (span : ℕ → ℕ) where
  divided_plain : (n index : ℕ) (r : Divided) → ((i : ℕ) → i < n → 0 < span i)
      → (divided_from span n index r).coordinates ≡ coordinates (λ (d : ℕ). d) span n index r.coordinates
  unfolding divided_from coordinates
  divided_plain zero index r some = refl
  divided_plain (suc n) index r some =
      divided_plain n (split_by (span n) index).quotient (with_split r n (split_by (span n) index)) (λ i h. some i (omega arith))
      ∙ rw (split_rest index (some n (omega arith)), split_quotient index (some n (omega arith)))

  -- a dimension of n needs a division
  abbrev needs : ℕ → ℕ → ℕ → Bool
  needs n index d = divides (span d) (index_at span n index d)

  needs_earlier : (n index d : ℕ) → d < n → needs (suc n) index d ≡ needs n (index / span n) d
  unfolding index_at pick
  needs_earlier n index d h = rw (lt-ltb d n h)

  needs_last : (n index : ℕ) → needs (suc n) index n ≡ divides (span n) index
  unfolding index_at pick
  needs_last n index = rw (le-ltb n n (omega arith))

  divided_count : (n index : ℕ) (r : Divided) → ((i : ℕ) → i < n → 0 < span i)
      → (divided_from span n index r).divisions ≡ r.divisions + how_many (needs n index) n
  unfolding divided_from how_many
  divided_count zero index r some = sym (add-zero r.divisions)
  divided_count (suc n) index r some =
      let e = split_quotient index (some n (omega arith)) in
      divided_count n (split_by (span n) index).quotient (with_split r n (split_by (span n) index)) (λ i h. some i (omega arith))
      ∙ rw (e, split_count, needs_last n index, how_many_same (needs (suc n) index) (needs n (index / span n)) n (needs_earlier n index)) (omega arith)

-- For every layout and every index:
module _ (l : Layout) (ok : layout_ok l ≡ true) (index : ℕ) where
  spans_some : (i : ℕ) → i < l.rank → 0 < span_of l i
  spans_some i h = (layout_span l ok i h).some

  all_dimensions : divided l index ≡ divided_from (span_of l) l.rank index nothing_divided
  unfolding divided
  all_dimensions = rw (min-eq_left (layout_most l ok))

  -- the coordinates are the plain rule's,
  pub divided_coordinates : (divided l index).coordinates ≡ span_coordinates l index
  unfolding span_coordinates
  divided_coordinates = rw all_dimensions (divided_plain (span_of l) l.rank index nothing_divided spans_some)

  -- and the divisions are those of the dimensions whose span is above 1 while the index isn't 0.
  pub divided_divisions : (divided l index).divisions ≡ needed_divisions l index
  unfolding divides
  divided_divisions = rw all_dimensions (divided_count (span_of l) l.rank index nothing_divided spans_some ∙ omega arith)
