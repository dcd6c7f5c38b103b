-- A layout's content, both ways: its bytes read as that layout, and what was read has those bytes.
use Prim.Native.Nat.{ℕ, ◌+◌, ◌*◌, ◌%◌, ◌<◌, ◌≤◌}
use Rattle.std.specs.Prelude.{◌≡◌, true, length, get_or, replicate}
use Rattle.std.proofs.Math.Path.{refl}
use Rattle.std.proofs.Common.{sym, ap, ◌∙◌, true≢false}
use mathlib.Core.List.{List}
use Rattle.std.proofs.Math.Nat.{add-zero}
use native.Mathlib.Omega.{arith}
use borrow.Author.Tests.{eqb-true, leb-true, le-leb, eq-eqb}
use Rattle.numbers.specs.Laws.Choice.{both_left, both_right, both_true, between_low, between_true}
use Rattle.numbers.specs.Little.{u16_at, u32_at}
use Rattle.numbers.specs.Lists.{each, line}
use Rattle.numbers.specs.Laws.Places.{places_given, places_past, places_count, places_are, places_all, Held, held}
use Rattle.numbers.specs.Bytes.{AreBytes}
use Rattle.sheet.specs.Sizes.{rank_places}
use Rattle.sheet.specs.Codes.{clamp_mode, clamp_code, undefined}
use Rattle.tensor_ranges.specs.Layouts.{no_dimension, no_layout, the_dimension, dimension_ok, dimension_unused, dimension_at_ok, dimensions_ok, layout_ok, layout_unused}
use Rattle.tensor_ranges.specs.Laws.Facts.{layout_some, layout_most}
use Rattle.sheet.specs.declared.ClampMode.{ClampMode}
use Rattle.sheet.specs.declared.ClampMode.TheVariants.{Undefined, Constant, ClampToEdge, Repeat, MirrorRepeat}
use Rattle.sheet.specs.declared.Dimension.{Dimension}
use Rattle.sheet.specs.declared.Layout.{Layout}
use Rattle.contents.specs.Contents.{dimension_at, dimensions_at, layout_at, layout_length, layout_length_ok, layout_head_ok}
use Rattle.contents.specs.Laws.Heads.{layout_head}
use Rattle.sheet_bytes.specs.Bytes.{dimension_bytes, dimensions_bytes, layout_bytes}
use Rattle.sheet_bytes.specs.Laws.Lengths.{length_dimension, length_layout}
use Rattle.fields.specs.Laws.Stretches.{Has, has_shift, has_back, has_rows_at, has_rows, u16_of, u32_of, low_at, high_at, u16_below, u32_below, has_u32}
use Rattle.round_trip.proofs.Laws.Codes.{clamp_mode_of, clamp_code_small, clamp_code_of}
use Rattle.round_trip.specs.Typed.{DimensionFits, LayoutFits, LayoutArrays}

pub dimension_of : (s : List ℕ) (p : ℕ) (d : Dimension) → Has s p 0 (dimension_bytes d) → dimension_at s p ≡ d
unfolding dimension_at dimension_bytes
dimension_of s p d h =
    let t2 = h.1.1 in
    let t4 = t2.1.1 in
    let t6 = t4.1.1 in
    let t8 = t6.1.1 in
    let b : u16_at s p ≡ d.block = rw add-zero at (u16_of s p 0 d.block h.0 h.1.0) in
    let z = u16_of s p 2 d.size t2.0 t2.1.0 in
    let t = u16_of s p 4 d.stride t4.0 t4.1.0 in
    let o = u16_of s p 6 d.offset t6.0 t6.1.0 in
    let n = u16_of s p 8 d.span t8.0 t8.1.0 in
    λ i. record { block = b i; size = z i; stride = t i; offset = o i; span = n i }

pub has_dimension : (s : List ℕ) (p : ℕ) → AreBytes s → Has s p 0 (dimension_bytes (dimension_at s p))
unfolding dimension_at dimension_bytes
has_dimension s p b =
    let l0 = rw add-zero at (low_at s b p 0) in
    let h0 = rw add-zero at (high_at s b p 0) in
    (rw add-zero l0, (h0, (low_at s b p 2, (high_at s b p 2, (low_at s b p 4, (high_at s b p 4, (low_at s b p 6, (high_at s b p 6, (low_at s b p 8, (high_at s b p 8, tt))))))))))

pub dimension_fits : (s : List ℕ) (p : ℕ) → AreBytes s → DimensionFits (dimension_at s p)
unfolding dimension_at
dimension_fits s p b = record { stride = u16_below s b (p + 4); offset = u16_below s b (p + 6) }

pub no_dimension_lem : (d : Dimension) → dimension_unused d ≡ true → d ≡ no_dimension
unfolding dimension_unused
no_dimension_lem d e =
    let e1 = both_right _ _ e in
    let e2 = both_right _ _ e1 in
    let e3 = both_right _ _ e2 in
    let b = eqb-true d.block 0 (both_left _ _ e) in
    let z = eqb-true d.size 0 (both_left _ _ e1) in
    let t = eqb-true d.stride 0 (both_left _ _ e2) in
    let o = eqb-true d.offset 0 (both_left _ _ e3) in
    let n = eqb-true d.span 0 (both_right _ _ e3) in
    λ i. record { block = b i; size = z i; stride = t i; offset = o i; span = n i }

-- the bytes of dimension k
abbrev row : List Dimension → ℕ → List ℕ
row ds k = dimension_bytes (the_dimension ds k)

-- a layout of 1 to 5 dimensions in five places, the others unused
pub record LayoutShaped (l : Layout) : Type 0 where
  pub some : 1 ≤ l.rank
  pub few : l.rank ≤ rank_places
  pub five : length l.dimensions ≡ rank_places
  pub past : (k : ℕ) → l.rank ≤ k → k < rank_places → the_dimension l.dimensions k ≡ no_dimension

abbrev pub DimensionsHeld : ℕ → List Dimension → Type 0
DimensionsHeld rank ds = Held rank_places dimension_ok dimension_unused no_dimension rank ds

dimensions_held : (rank : ℕ) (ds : List Dimension) → rank ≤ rank_places → dimensions_ok rank ds ≡ true → DimensionsHeld rank ds
unfolding dimension_at_ok
dimensions_held rank ds h e = held rank_places dimension_ok dimension_unused no_dimension rank ds h e

pub layout_held : (l : Layout) → layout_ok l ≡ true → DimensionsHeld l.rank l.dimensions
unfolding layout_ok
layout_held l e = dimensions_held l.rank l.dimensions (layout_most l e) (both_right _ _ e)

pub layout_shaped : (l : Layout) → layout_ok l ≡ true → LayoutArrays l → LayoutShaped l
layout_shaped l e z =
    record {
      some = layout_some l e;
      few = layout_most l e;
      five = z;
      past = λ k h m. no_dimension_lem (the_dimension l.dimensions k) ((layout_held l e).past k h m);
    }

-- an unused layout is the one whose every number is zero
no_mode : (m : ClampMode) → undefined m ≡ true → m ≡ Undefined
no_mode Undefined e = refl
no_mode Constant e = absurd (true≢false (sym e))
no_mode ClampToEdge e = absurd (true≢false (sym e))
no_mode Repeat e = absurd (true≢false (sym e))
no_mode MirrorRepeat e = absurd (true≢false (sym e))

no_dimensions : (ds : List Dimension) → length ds ≡ rank_places → dimensions_ok 0 ds ≡ true → ds ≡ replicate rank_places no_dimension
unfolding line
no_dimensions ds z e =
    let w = dimensions_held 0 ds (omega arith) e in
    sym (places_are rank_places no_dimension no_dimension (λ (k : ℕ). no_dimension) 0 (omega arith) ds z (λ k l. absurd (omega arith)) (λ k l m. no_dimension_lem (the_dimension ds k) (w.past k l m)))

pub no_layout_lem : (l : Layout) → LayoutArrays l → layout_unused l ≡ true → l ≡ no_layout
unfolding layout_unused no_layout
no_layout_lem l z e =
    let e1 = both_right _ _ e in
    let e2 = both_right _ _ e1 in
    let r = eqb-true l.rank 0 (both_left _ _ e) in
    let m = no_mode l.mode (both_left _ _ e1) in
    let c = eqb-true l.clamp 0 (both_left _ _ e2) in
    let d = no_dimensions l.dimensions z (both_right _ _ e2) in
    λ i. record { rank = r i; mode = m i; clamp = c i; dimensions = d i }

-- from the bytes to the layout
dimensions_of : (s : List ℕ) (p rank : ℕ) (ds : List Dimension) → rank ≤ rank_places → length ds ≡ rank_places → ((k : ℕ) → rank ≤ k → k < rank_places → the_dimension ds k ≡ no_dimension) → Has s p 0 (dimensions_bytes rank ds) → dimensions_at s p rank ≡ ds
unfolding dimensions_at
dimensions_of s p rank ds h z u b =
    places_are rank_places no_dimension no_dimension (λ (k : ℕ). dimension_at s (p + k * 10)) rank h ds z
    (λ k l.
    dimension_of s (p + k * 10) (the_dimension ds k)
    (has_rows_at s p 10 rank (row ds) (λ k l. length_dimension (the_dimension ds k)) b k l))
    u

pub layout_of : (s : List ℕ) (p : ℕ) (l : Layout) → LayoutShaped l → Has s p 0 (layout_bytes l) → layout_at s p ≡ l
unfolding layout_at layout_bytes
layout_of s p l w h =
    let r : get_or s p 0 ≡ l.rank = rw add-zero at h.0 in
    let m : clamp_mode (get_or s (p + 1) 0) ≡ l.mode = ap clamp_mode h.1.0 ∙ clamp_mode_of l.mode in
    let c : u32_at s (p + 2) ≡ l.clamp = u32_of s p 2 l.clamp (dimensions_bytes l.rank l.dimensions) h.1.1 in
    let g = has_shift s p 6 0 (dimensions_bytes l.rank l.dimensions) h.1.1.1.1.1.1 in
    let d : dimensions_at s (p + 6) (get_or s p 0) ≡ l.dimensions = rw r (dimensions_of s (p + 6) l.rank l.dimensions w.few w.five w.past g) in
    λ i. record { rank = r i; mode = m i; clamp = c i; dimensions = d i }

pub layout_length_ok_lem : (rank : ℕ) → 1 ≤ rank → rank ≤ rank_places → layout_length_ok (layout_length rank) ≡ true
unfolding layout_length_ok
layout_length_ok_lem rank h l =
    both_true _ _ (between_true 16 56 (layout_length rank) (omega arith) (omega arith)) (eq-eqb (layout_length rank % 10) 6 (omega arith))

pub layout_head_ok_lem : (s : List ℕ) (p : ℕ) (l : Layout) → LayoutShaped l → Has s p 0 (layout_bytes l) → layout_head_ok s p (length (layout_bytes l)) ≡ true
unfolding layout_head_ok layout_bytes
layout_head_ok_lem s p l w h =
    let r : get_or s p 0 ≡ l.rank = rw add-zero at h.0 in
    let e = length_layout l in
    rw (r, h.1.0, e)
    (both_true _ _ (between_true 1 rank_places l.rank w.some w.few)
    (both_true _ _ (eq-eqb (layout_length l.rank) _ refl) (le-leb (clamp_code l.mode) 4 (clamp_code_small l.mode))))

-- from the layout that was read to the bytes
module _ (s : List ℕ) (p len : ℕ) (e : layout_head_ok s p len ≡ true) where
  few : get_or s p 0 ≤ rank_places
  few = (layout_head s p len e).few

  some : 1 ≤ get_or s p 0
  unfolding layout_head_ok
  some = between_low 1 rank_places (get_or s p 0) (both_left _ _ e)

  mode : get_or s (p + 1) 0 ≤ 4
  unfolding layout_head_ok
  mode = leb-true _ _ (both_right _ _ (both_right _ _ e))

  dimension_at_lem : (k : ℕ) → k < get_or s p 0 → the_dimension (layout_at s p).dimensions k ≡ dimension_at s (p + 6 + k * 10)
  unfolding layout_at dimensions_at
  dimension_at_lem k h = places_given rank_places no_dimension no_dimension (λ (k : ℕ). dimension_at s (p + 6 + k * 10)) (get_or s p 0) few k h

  pub layout_at_shaped : LayoutShaped (layout_at s p)
  unfolding layout_at dimensions_at
  layout_at_shaped =
      record {
        some = some;
        few = few;
        five = places_count rank_places no_dimension no_dimension (λ (k : ℕ). dimension_at s (p + 6 + k * 10)) (get_or s p 0) few;
        past = λ k h m. places_past rank_places no_dimension no_dimension (λ (k : ℕ). dimension_at s (p + 6 + k * 10)) (get_or s p 0) few k h m;
      }

  pub layout_at_long : length (layout_bytes (layout_at s p)) ≡ len
  unfolding layout_at
  layout_at_long = length_layout (layout_at s p) ∙ (layout_head s p len e).fills

  pub has_layout : AreBytes s → Has s p 0 (layout_bytes (layout_at s p))
  unfolding layout_at layout_bytes
  has_layout b =
      let c = clamp_code_of (get_or s (p + 1) 0) mode in
      let u = has_u32 s b p 2 in
      let f : ℕ → List ℕ = row (layout_at s p).dimensions in
      let g : Has s (p + 6) 0 (each (get_or s p 0) f) = has_rows s (p + 6) 10 (get_or s p 0) f (λ k h. length_dimension (the_dimension (layout_at s p).dimensions k)) (λ k h. rw (dimension_at_lem k h) (has_dimension s (p + 6 + k * 10) b)) in
      (rw add-zero refl, (sym c, (u.0, (u.1.0, (u.1.1.0, (u.1.1.1.0, has_back s p 6 0 (each (get_or s p 0) f) g))))))

  pub layout_at_fits : AreBytes s → LayoutFits (layout_at s p)
  unfolding layout_at dimensions_at
  layout_at_fits b =
      record {
        clamp = u32_below s b (p + 2);
        dimension =
            places_all DimensionFits rank_places no_dimension (λ (k : ℕ). dimension_at s (p + 6 + k * 10)) (get_or s p 0) few
            (record { stride = omega arith; offset = omega arith })
            (λ k h. dimension_fits s (p + 6 + k * 10) b);
      }
