-- Rules 2 and 3 to 5 as loops from the last dimension to the first, which keep no coordinates.
use Prim.Native.Nat.{ℕ, ◌+◌, ◌-◌, ◌*◌, ◌/◌, ◌%◌, ◌<◌, ◌≤◌}
use mathlib.Core.Path.{◌≡◌, refl, sym, ap, ◌∙◌}
use mathlib.Core.Bool.{Bool, true}
use mathlib.Core.List.{List}
use native.Mathlib.Nat.{add-zero, mod-lt}
use native.Mathlib.Omega.{arith}
use Rattle.tensor_ranges.specs.Laws.Facts.{InSize, layout_most, layout_span, layout_block, layout_size}
use Rattle.tensor_ranges.specs.Layouts.{the_dimension, layout_ok}
use Rattle.sheet.specs.declared.Dimension.{Dimension}
use Rattle.sheet.specs.declared.Layout.{Layout}
use Rattle.sheet.specs.Sizes.{rank_places, size_limit}
use Rattle.clamps.specs.declared.Clamped.{Clamped}
use Rattle.clamps.specs.declared.Clamped.TheVariants.{Refused, Discarded, Filled, At}
use Rattle.view_indices.specs.Indices.{span_of}
use Rattle.spans.specs.Spans.{split_by}
use Rattle.addressing.specs.Rules.{part, plus}
use Rattle.addressing.specs.Rows.{up_to}
use Rattle.addressing.specs.Laws.Rows.{part_one, up_one, plus_stop, up_last}
use Rattle.clamps.proofs.Laws.Clamps.{stop_of, AtOr}
use Rattle.spans.specs.Laws.Splits.{split_rest, split_quotient}
use Rattle.spans.specs.declared.Split.{Split}
use Rattle.dimensions.specs.Dimensions.{dimension_numbers, dimension_in, lead, lead_start, tail_of, tail_numbers, part_limit}
use Rattle.dimensions.specs.Laws.Tails.{lead_most, tail_dimension}
use Rattle.dimensions.specs.declared.Tail.{Tail}
use Rattle.addressing.proofs.Tails.{lead_sum}

plus_zero : (x : Clamped) → plus x (At 0) ≡ x
plus_zero Refused = refl
plus_zero Discarded = refl
plus_zero Filled = refl
plus_zero (At a) = rw add-zero

plus_sum : (x : Clamped) (a b : ℕ) → plus (plus x (At a)) (At b) ≡ plus x (At (b + a))
plus_sum Refused a b = refl
plus_sum Discarded a b = refl
plus_sum Filled a b = refl
plus_sum (At x) a b = let e : x + a + b ≡ x + (b + a) = omega arith in rw e

-- the last of d dimensions after the fixed ones, by the numbers that are left
module _ (l : Layout) (ok : layout_ok l ≡ true) {ns : List ℕ} {d : ℕ} {x : Dimension} (n : ns ≡ tail_numbers l) (h : 0 < d) (m : d ≤ l.rank - lead l)
    (e : x ≡ dimension_in ns (dimension_numbers * (d - 1))) where
  pub same_dimension : x ≡ the_dimension l.dimensions (lead l + d - 1)
  same_dimension =
      let q : lead l + (d - 1) ≡ lead l + d - 1 = omega arith in
      e ∙ rw (n, tail_dimension l ok (d - 1) (omega arith), q) refl

-- The loop over the first n dimensions: those from d on are done and have a sum; `left` is what is left of the index.
pub record Summing (load : Bool) (l : Layout) (n index d left sum : ℕ) : Type 0 where
  pub few : d ≤ n
  pub small : sum ≤ (n - d) * part_limit
  pub whole : plus (up_to load l d left) (At sum) ≡ up_to load l n index

module _ (load : Bool) (l : Layout) (n index : ℕ) where
  pub summing_start : Summing load l n index n index 0
  summing_start = record { few = omega arith; small = omega arith; whole = plus_zero _ }

  module _ (d left sum : ℕ) (w : Summing load l n index d left sum) (h : 0 < d) where
    abbrev span : ℕ
    span = span_of l (d - 1)

    abbrev next : Clamped
    next = part load l.mode (the_dimension l.dimensions (d - 1)) (left % span)

    one_more : up_to load l d left ≡ plus (up_to load l (d - 1) (left / span)) next
    one_more = up_last load l d left h

    pub summing_more : (y : ℕ) → y ≤ part_limit → next ≡ At y → Summing load l n index (d - 1) (left / span) (sum + y)
    summing_more y m e =
        record {
          few = omega (arith, w.few);
          small = omega (arith, w.small, w.few);
          whole = sym (plus_sum (up_to load l (d - 1) (left / span)) y sum) ∙ rw (← e, ← one_more) w.whole;
        }

    pub summing_stop : (y : Clamped) → ((a : ℕ) → plus (At a) y ≡ y) → plus y (At sum) ≡ y → stop_of load l.mode ≡ y → next ≡ y
        → y ≡ up_to load l n index
    summing_stop y after before z e =
        let below = up_to load l (d - 1) (left / span) in
        let f : up_to load l d left ≡ y =
        one_more ∙ rw e (plus_stop (stop_of load l.mode) below y (up_one load l (d - 1) (left / span)) z after) in
        sym before ∙ (rw f at w.whole)

    -- what is outside is outside alike
    pub next_stop : (y : Clamped) → next ≡ y → AtOr (stop_of load l.mode) y
    next_stop y e = rw e at (part_one load l.mode (the_dimension l.dimensions (d - 1)) (left % span))

-- The loop over n dimensions after the fixed ones: those from the last d on are done; the sum has what the fixed ones add.
pub record Tailing (load : Bool) (l : Layout) (n index d left sum : ℕ) : Type 0 where
  pub few : d ≤ l.rank - lead l
  pub most : n ≤ l.rank - lead l
  pub start : lead_start l (lead l) ≤ lead l * part_limit
  pub done : ℕ
  pub adds : sum ≡ lead_start l (lead l) + done
  pub walk : Summing load l (lead l + n) index (lead l + d) left done

module _ (load : Bool) (l : Layout) (ok : layout_ok l ≡ true) (n index : ℕ) where
  pub tailing_start : (t : Tail) → t ≡ tail_of l → t.start ≤ lead l * part_limit → n ≤ t.rank → Tailing load l n index n index t.start
  unfolding tail_of
  tailing_start t e m r =
      let i : n ≤ l.rank - lead l = rw e at r in
      rw e
      (record {
        few = i;
        most = i;
        start = rw e at m;
        done = 0;
        adds = sym (add-zero (lead_start l (lead l)));
        walk = summing_start load l (lead l + n) index;
      })

  -- a turn at the last of d dimensions, as a dimension and what its span makes of the index
  pub record Turn (d left sum : ℕ) (x : Dimension) (s : Split) : Type 0 where
    pub inv : Tailing load l n index d left sum
    pub some : 0 < d
    pub dimension : x ≡ the_dimension l.dimensions (lead l + d - 1)
    pub rest : s.rest ≡ left % span_of l (lead l + d - 1)
    pub quotient : s.quotient ≡ left / span_of l (lead l + d - 1)

  pub turn : {ns : List ℕ} {d left sum span : ℕ} {x : Dimension} {s : Split} → ns ≡ tail_numbers l → Tailing load l n index d left sum → 0 < d
      → x ≡ dimension_in ns (dimension_numbers * (d - 1)) → span ≡ x.span → s ≡ split_by span left → Turn d left sum x s
  turn {d = d} {left = left} {x = x} e w h f g t =
      let z = same_dimension l ok e h w.few f in
      let some = (layout_span l ok (lead l + d - 1) (omega (arith, w.few, lead_most l))).some in
      let q = g ∙ ap (λ (y : Dimension). y.span) z in
      record {
        inv = w;
        some = h;
        dimension = z;
        rest = rw (t, q) (split_rest left some);
        quotient = rw (t, q) (split_quotient left some);
      }

  module _ {d left sum : ℕ} {x : Dimension} {s : Split} (t : Turn d left sum x s) where
    abbrev place : ℕ
    place = lead l + d - 1

    in_rank : place < l.rank
    in_rank = omega (arith, t.some, t.inv.few, lead_most l)

    pub turn_size : InSize x.size
    turn_size = rw t.dimension (layout_size l ok place in_rank)

    pub turn_block : InSize x.block
    turn_block = rw t.dimension (layout_block l ok place in_rank)

    pub turn_rest : s.rest < size_limit
    turn_rest = let z = layout_span l ok place in_rank in rw t.rest (omega (arith, mod-lt left z.some, z.most))

    here : {r : Clamped} → r ≡ part load l.mode x s.rest → part load l.mode (the_dimension l.dimensions place) (left % span_of l place) ≡ r
    here e = sym (e ∙ rw (t.rest, t.dimension))

    pub turn_fits : (y : ℕ) → y ≤ part_limit → sum + y ≤ rank_places * part_limit
    turn_fits y m = let w = t.inv in omega (arith, t.some, w.adds, w.start, w.walk.small, w.walk.few, w.most, layout_most l ok, lead_most l)

    pub turn_more : (y : ℕ) → y ≤ part_limit → At y ≡ part load l.mode x s.rest → Tailing load l n index (d - 1) s.quotient (sum + y)
    turn_more y m e =
        let w = t.inv in
        let h = t.some in
        let q : place ≡ lead l + (d - 1) = omega arith in
        rw t.quotient
        (record {
          few = omega (arith, w.few);
          most = w.most;
          start = w.start;
          done = w.done + y;
          adds = omega (arith, w.adds);
          walk = rw (← q) (summing_more load l (lead l + n) index (lead l + d) left w.done w.walk (omega arith) y m (here e));
        })

    pub turn_stop : (y : Clamped) → ((a : ℕ) → plus (At a) y ≡ y) → plus y (At t.inv.done) ≡ y → ((z : Clamped) → AtOr z y → z ≡ y) → y ≡ part load l.mode x s.rest
        → y ≡ up_to load l (lead l + n) index
    turn_stop y after before alike e =
        let w = t.inv in
        let h = t.some in
        summing_stop load l (lead l + n) index (lead l + d) left w.done w.walk (omega arith) y after before
        (alike (stop_of load l.mode) (next_stop load l (lead l + n) index (lead l + d) left w.done w.walk (omega arith) y (here e))) (here e)

  pub tailing_end : (d left sum : ℕ) → Tailing load l n index d left sum → d ≤ 0
      → (At sum ≡ up_to load l (lead l + n) index) × (sum ≤ (lead l + n) * part_limit)
  tailing_end d left sum w h =
      let q : lead l + d ≡ lead l = omega arith in
      (rw w.adds (rw (q, lead_sum l ok load left (lead l) (omega arith)) at w.walk.whole), omega (arith, w.adds, w.start, w.walk.small))
