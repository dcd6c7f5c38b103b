-- A view's content, both ways: its bytes read as that view, and what was read has those bytes.
use Prim.Native.Nat.{ℕ, ◌+◌, ◌*◌, ◌<◌, ◌≤◌}
use Rattle.std.specs.Prelude.{◌≡◌, refl, Bool, true, false, List, [], ◌∷◌, ◌++◌}
use Rattle.std.proofs.Math.Path.{sym}
use Rattle.std.proofs.Common.{◌∙◌}
use Rattle.std.proofs.Math.Nat.{add-zero}
use native.Mathlib.Omega.{arith}
use borrow.Author.Tests.{eqb-true, leb-true, le-leb, le-ltb, eq-eqb, not-true}
use Rattle.std.proofs.Math.ListN.{length, get_or, length-append}
use Rattle.numbers.specs.Choice.{pick, both, between}
use Rattle.numbers.specs.Laws.Choice.{both_left, both_right, both_true, between_low, between_true}
use Rattle.numbers.specs.Laws.All.{all_at}
use Rattle.numbers.specs.Little.{u16_at, u16_bytes}
use Rattle.numbers.specs.Lists.{line}
use Rattle.numbers.specs.Laws.Places.{places_given, places_past, places_count, places_are, places_all, Held, held}
use Rattle.numbers.specs.Bytes.{AreBytes}
use Rattle.sheet.specs.Sizes.{rank_places, size_ok}
use Rattle.sheet.specs.Codes.{flag_code}
use Rattle.tensor_ranges.specs.Views.{no_view_dimension, no_clip, no_view, the_view_dimension, entry_ok, permutation_ok, view_dimension_unused, view_dimension_at_ok, view_dimensions_ok, sized_rank, view_ok, clip_unused, view_unused}
use Rattle.tensor_ranges.specs.Laws.Facts.{view_some, view_most}
use Rattle.sheet.specs.declared.ViewDimension.{ViewDimension}
use Rattle.sheet.specs.declared.Clip.{Clip}
use Rattle.sheet.specs.declared.View.{View}
use Rattle.contents.specs.Contents.{permutation_at, view_dimension_at, view_dimensions_at, clip_at, view_of, has_dimensions, view_at, view_length, view_length_ok, view_head_ok}
use Rattle.contents.specs.Laws.Heads.{sized_few, view_head}
use Rattle.sheet_bytes.specs.Bytes.{entries_bytes, view_dimension_bytes, view_dimensions_bytes, clip_bytes, view_bytes}
use Rattle.sheet_bytes.specs.Laws.Lengths.{length_entries, length_view_dimension, length_view_dimensions, length_clip, length_view}
use Rattle.fields.specs.Laws.Stretches.{Has, has_at, has_shift, has_back, has_left, has_right, has_join, has_rows_at, has_rows, u16_of, low_at, high_at, u16_below}
use Rattle.round_trip.proofs.Laws.Codes.{one_of, flag_of, flag_code_small, flag_code_of}
use Rattle.round_trip.specs.Typed.{U16, ClipFits, ViewFits, ViewArrays}

-- two numbers of 16 bits, one after the other: a view dimension with its stride, and one side of the clip
module _ (s : List ℕ) (p : ℕ) where
  two_of : (x y : ℕ) → Has s p 0 (u16_bytes x ++ u16_bytes y) → (u16_at s p ≡ x) × (u16_at s (p + 2) ≡ y)
  two_of x y h = (rw add-zero at (u16_of s p 0 x h.0 h.1.0), u16_of s p 2 y h.1.1.0 h.1.1.1.0)

  has_two : AreBytes s → Has s p 0 (u16_bytes (u16_at s p) ++ u16_bytes (u16_at s (p + 2)))
  has_two b =
      let l = rw add-zero at (low_at s b p 0) in
      let h = rw add-zero at (high_at s b p 0) in
      (rw add-zero l, (h, (low_at s b p 2, (high_at s b p 2, tt))))

  view_dimension_of : (d : ViewDimension) → Has s p 0 (view_dimension_bytes d) → view_dimension_at s p ≡ d
  unfolding view_dimension_at view_dimension_bytes
  view_dimension_of d h = let e = two_of d.size d.stride h in λ i. record { size = e.0 i; stride = e.1 i }

  has_view_dimension : AreBytes s → Has s p 0 (view_dimension_bytes (view_dimension_at s p))
  unfolding view_dimension_at view_dimension_bytes
  has_view_dimension b = has_two b

  clip_of : (c : Clip) → Has s p 0 (clip_bytes c) → clip_at s p ≡ c
  unfolding clip_at clip_bytes
  clip_of c h = let e = two_of c.offset c.span h in λ i. record { offset = e.0 i; span = e.1 i }

  has_clip : AreBytes s → Has s p 0 (clip_bytes (clip_at s p))
  unfolding clip_at clip_bytes
  has_clip b = has_two b

  clip_fits : AreBytes s → ClipFits (clip_at s p)
  unfolding clip_at
  clip_fits b = record { offset = u16_below s b p; span = u16_below s b (p + 2) }

-- the bytes of permutation entry k, and of view dimension k
abbrev entry : List ℕ → ℕ → List ℕ
entry ps k = get_or ps k 0 ∷ []

abbrev row : List ViewDimension → ℕ → List ℕ
row ds k = view_dimension_bytes (the_view_dimension ds k)

-- how many dimensions and strides of its own a view has
abbrev own : View → ℕ
own v = sized_rank v.sized v.rank

-- a view of 1 to 5 dimensions in five places, the others unused
pub record ViewShaped (v : View) : Type 0 where
  pub some : 1 ≤ v.rank
  pub few : v.rank ≤ rank_places
  pub entries : length v.permutation ≡ rank_places
  pub five : length v.dimensions ≡ rank_places
  pub entry_past : (k : ℕ) → v.rank ≤ k → k < rank_places → get_or v.permutation k 0 ≡ 0
  pub past : (k : ℕ) → sized_rank v.sized v.rank ≤ k → k < rank_places → the_view_dimension v.dimensions k ≡ no_view_dimension

no_view_dimension_lem : (d : ViewDimension) → view_dimension_unused d ≡ true → d ≡ no_view_dimension
unfolding view_dimension_unused
no_view_dimension_lem d e =
    let z = eqb-true d.size 0 (both_left _ _ e) in
    let t = eqb-true d.stride 0 (both_right _ _ e) in
    λ i. record { size = z i; stride = t i }

no_clip_lem : (c : Clip) → clip_unused c ≡ true → c ≡ no_clip
unfolding clip_unused
no_clip_lem c e =
    let o = eqb-true c.offset 0 (both_left _ _ e) in
    let n = eqb-true c.span 0 (both_right _ _ e) in
    λ i. record { offset = o i; span = n i }

view_dimensions_held : (n : ℕ) (ds : List ViewDimension) → n ≤ rank_places → view_dimensions_ok n ds ≡ true → Held rank_places (λ (d : ViewDimension). size_ok d.size) view_dimension_unused no_view_dimension n ds
unfolding view_dimension_at_ok
view_dimensions_held n ds h e = held rank_places (λ (d : ViewDimension). size_ok d.size) view_dimension_unused no_view_dimension n ds h e

entry_unused : (rank : ℕ) (ps : List ℕ) → permutation_ok rank ps ≡ true → (k : ℕ) → rank ≤ k → k < rank_places → get_or ps k 0 ≡ 0
unfolding entry_ok pick
entry_unused rank ps e k h l = eqb-true (get_or ps k 0) 0 (rw (le-ltb k rank h) at (all_at rank_places (entry_ok rank ps) e k l))

pub view_held : (v : View) → view_ok v ≡ true → Held rank_places (λ (d : ViewDimension). size_ok d.size) view_dimension_unused no_view_dimension (sized_rank v.sized v.rank) v.dimensions
unfolding view_ok
view_held v e =
    let few : own v ≤ rank_places = sized_few v.sized v.rank rank_places (view_most v e) in
    view_dimensions_held (own v) v.dimensions few (both_right _ _ (both_right _ _ e))

pub view_shaped : (v : View) → view_ok v ≡ true → ViewArrays v → ViewShaped v
unfolding view_ok
view_shaped v e z =
    let w = view_held v e in
    record {
      some = view_some v e;
      few = view_most v e;
      entries = z.permutation;
      five = z.dimensions;
      entry_past = entry_unused v.rank v.permutation (both_left _ _ (both_right _ _ e));
      past = λ k h m. no_view_dimension_lem (the_view_dimension v.dimensions k) (w.past k h m);
    }

-- an unused view is the one whose every number is zero
pub no_view_lem : (v : View) → ViewArrays v → view_unused v ≡ true → v ≡ no_view
unfolding view_unused no_view line
no_view_lem v z e =
    let e1 = both_right _ _ e in
    let e2 = both_right _ _ e1 in
    let e3 = both_right _ _ e2 in
    let e4 = both_right _ _ e3 in
    let r = eqb-true v.rank 0 (both_left _ _ e) in
    let b = not-true v.sized (both_left _ _ e1) in
    let p = sym (places_are rank_places 0 0 (λ (k : ℕ). 0) 0 (omega arith) v.permutation z.permutation (λ k l. absurd (omega arith)) (entry_unused 0 v.permutation (both_left _ _ e2))) in
    let w = view_dimensions_held 0 v.dimensions (omega arith) (both_left _ _ e3) in
    let d = sym (places_are rank_places no_view_dimension no_view_dimension (λ (k : ℕ). no_view_dimension) 0 (omega arith) v.dimensions z.dimensions (λ k l. absurd (omega arith)) (λ k l m. no_view_dimension_lem (the_view_dimension v.dimensions k) (w.past k l m))) in
    let rs = no_clip_lem v.rows (both_left _ _ e4) in
    let cs = no_clip_lem v.columns (both_right _ _ e4) in
    λ i. record { rank = r i; sized = b i; permutation = p i; dimensions = d i; rows = rs i; columns = cs i }

-- from the bytes to the view
permutation_of : (s : List ℕ) (p rank : ℕ) (ps : List ℕ) → rank ≤ rank_places → length ps ≡ rank_places → ((k : ℕ) → rank ≤ k → k < rank_places → get_or ps k 0 ≡ 0) → Has s p 0 (entries_bytes rank ps) → permutation_at s p rank ≡ ps
unfolding permutation_at
permutation_of s p rank ps h z u b =
    places_are rank_places 0 0 (λ (k : ℕ). get_or s (p + k) 0) rank h ps z
    (λ k l.
    let e : p + k * 1 + 0 ≡ p + k = omega arith in
    rw e at (has_rows_at s p 1 rank (entry ps) (λ k l. refl) b k l).0)
    u

view_dimensions_of : (s : List ℕ) (p n : ℕ) (ds : List ViewDimension) → n ≤ rank_places → length ds ≡ rank_places → ((k : ℕ) → n ≤ k → k < rank_places → the_view_dimension ds k ≡ no_view_dimension) → Has s p 0 (view_dimensions_bytes n ds) → view_dimensions_at s p n ≡ ds
unfolding view_dimensions_at
view_dimensions_of s p n ds h z u b =
    places_are rank_places no_view_dimension no_view_dimension (λ (k : ℕ). view_dimension_at s (p + k * 4)) n h ds z
    (λ k l. view_dimension_of s (p + k * 4) (the_view_dimension ds k) (has_rows_at s p 4 n (row ds) (λ k l. length_view_dimension (the_view_dimension ds k)) b k l))
    u

-- where the parts of a view's content stand
record Parts (s : List ℕ) (p : ℕ) (v : View) : Type 0 where
  count : get_or s p 0 ≡ v.rank
  has : get_or s (p + 1) 0 ≡ flag_code v.sized
  entries : Has s (p + 2) 0 (entries_bytes v.rank v.permutation)
  dimensions : Has s (p + 2 + v.rank) 0 (view_dimensions_bytes (own v) v.dimensions)
  rows : Has s (p + 2 + v.rank + own v * 4) 0 (clip_bytes v.rows)
  columns : Has s (p + 6 + v.rank + own v * 4) 0 (clip_bytes v.columns)

module _ (s : List ℕ) (p : ℕ) (v : View) where
  parts : Has s p 0 (view_bytes v) → Parts s p v
  unfolding view_bytes
  parts h =
      let b = entries_bytes v.rank v.permutation in
      let c = view_dimensions_bytes (own v) v.dimensions in
      let d = clip_bytes v.rows in
      let e = clip_bytes v.columns in
      let lb = length_entries v.rank v.permutation in
      let lc = length_view_dimensions (own v) v.dimensions in
      let ld = length_clip v.rows in
      let t4 = has_shift s p 2 0 (b ++ c ++ d ++ e) h.1.1 in
      let t3 = has_left s (p + 2) 0 (b ++ c ++ d) e t4 in
      let t2 = has_left s (p + 2) 0 (b ++ c) d t3 in
      record {
        count = rw add-zero at h.0;
        has = h.1.0;
        entries = has_left s (p + 2) 0 b c t2;
        dimensions = has_at s (p + 2 + length b) (p + 2 + v.rank) c (omega arith) (has_right s (p + 2) b c t2);
        rows = has_at s (p + 2 + length (b ++ c)) (p + 2 + v.rank + own v * 4) d (omega (arith, length-append b c)) (has_right s (p + 2) (b ++ c) d t3);
        columns =
            has_at s (p + 2 + length (b ++ c ++ d)) (p + 6 + v.rank + own v * 4) e
            (omega (arith, length-append b c, length-append (b ++ c) d)) (has_right s (p + 2) (b ++ c ++ d) e t4);
      }

  whole : Parts s p v → Has s p 0 (view_bytes v)
  unfolding view_bytes
  whole w =
      let b = entries_bytes v.rank v.permutation in
      let c = view_dimensions_bytes (own v) v.dimensions in
      let d = clip_bytes v.rows in
      let e = clip_bytes v.columns in
      let lb = length_entries v.rank v.permutation in
      let lc = length_view_dimensions (own v) v.dimensions in
      let ld = length_clip v.rows in
      let t2 = has_join s (p + 2) b c w.entries (has_at s (p + 2 + v.rank) (p + 2 + length b) c (omega arith) w.dimensions) in
      let t3 = has_join s (p + 2) (b ++ c) d t2 (has_at s (p + 2 + v.rank + own v * 4) (p + 2 + length (b ++ c)) d (omega (arith, length-append b c)) w.rows) in
      let t4 =
      has_join s (p + 2) (b ++ c ++ d) e t3
      (has_at s (p + 6 + v.rank + own v * 4) (p + 2 + length (b ++ c ++ d)) e
      (omega (arith, length-append b c, length-append (b ++ c) d)) w.columns) in
      (rw add-zero w.count, (w.has, has_back s p 2 0 (b ++ c ++ d ++ e) t4))

pub view_length_ok_lem : (b : Bool) (rank : ℕ) → 1 ≤ rank → rank ≤ rank_places → view_length_ok (view_length rank (sized_rank b rank)) ≡ true
unfolding view_length_ok pick between both sized_rank
view_length_ok_lem true rank h l =
    one_of (λ (rank : ℕ). view_length_ok (view_length rank (sized_rank true rank)) ≡ true) 1 5 (refl, (refl, (refl, (refl, (refl, tt))))) rank h (omega arith)
view_length_ok_lem false rank h l =
    one_of (λ (rank : ℕ). view_length_ok (view_length rank (sized_rank false rank)) ≡ true) 1 5 (refl, (refl, (refl, (refl, (refl, tt))))) rank h (omega arith)

module _ (s : List ℕ) (p : ℕ) (v : View) (w : ViewShaped v) (h : Has s p 0 (view_bytes v)) where
  has_of : has_dimensions s p ≡ v.sized
  has_of = rw (parts s p v h).has (flag_of v.sized)

  pub view_of_lem : view_at s p ≡ v
  unfolding view_at view_of
  view_of_lem =
      let g = parts s p v h in
      let few : own v ≤ rank_places = sized_few v.sized v.rank rank_places w.few in
      let ps = permutation_of s (p + 2) v.rank v.permutation w.few w.entries w.entry_past g.entries in
      let ds = view_dimensions_of s (p + 2 + v.rank) (own v) v.dimensions few w.five w.past g.dimensions in
      let rs = clip_of s (p + 2 + v.rank + own v * 4) v.rows g.rows in
      let cs = clip_of s (p + 6 + v.rank + own v * 4) v.columns g.columns in
      rw (g.count, has_of)
      (λ i. record { rank = v.rank; sized = v.sized; permutation = ps i; dimensions = ds i; rows = rs i; columns = cs i })

  pub view_head_ok_lem : view_head_ok s p (length (view_bytes v)) ≡ true
  unfolding view_head_ok
  view_head_ok_lem =
      let g = parts s p v h in
      rw (has_of, g.count, g.has, length_view v)
      (both_true _ _ (between_true 1 rank_places v.rank w.some w.few)
      (both_true _ _ (le-leb (flag_code v.sized) 1 (flag_code_small v.sized)) (eq-eqb (view_length v.rank (own v)) _ refl)))

-- from the view that was read to the bytes
module _ (s : List ℕ) (p len : ℕ) (e : view_head_ok s p len ≡ true) where
  few : get_or s p 0 ≤ rank_places
  few = (view_head s p len e).few

  own_few : sized_rank (has_dimensions s p) (get_or s p 0) ≤ rank_places
  own_few = (view_head s p len e).own

  some : 1 ≤ get_or s p 0
  unfolding view_head_ok
  some = between_low 1 rank_places (get_or s p 0) (both_left _ _ e)

  has : get_or s (p + 1) 0 ≤ 1
  unfolding view_head_ok
  has = leb-true _ _ (both_left _ _ (both_right _ _ e))

  pub view_at_shaped : ViewShaped (view_at s p)
  unfolding view_at view_of permutation_at view_dimensions_at
  view_at_shaped =
      let g : ℕ → ℕ = λ k. get_or s (p + 2 + k) 0 in
      let f : ℕ → ViewDimension = λ k. view_dimension_at s (p + 2 + get_or s p 0 + k * 4) in
      let n = sized_rank (has_dimensions s p) (get_or s p 0) in
      record {
        some = some;
        few = few;
        entries = places_count rank_places 0 0 g (get_or s p 0) few;
        five = places_count rank_places no_view_dimension no_view_dimension f n own_few;
        entry_past = places_past rank_places 0 0 g (get_or s p 0) few;
        past = places_past rank_places no_view_dimension no_view_dimension f n own_few;
      }

  pub view_at_long : length (view_bytes (view_at s p)) ≡ len
  unfolding view_at view_of
  view_at_long = length_view (view_at s p) ∙ (view_head s p len e).fills

  entry_at : (k : ℕ) → k < get_or s p 0 → get_or (view_at s p).permutation k 0 ≡ get_or s (p + 2 + k) 0
  unfolding view_at view_of permutation_at
  entry_at k h = places_given rank_places 0 0 (λ (k : ℕ). get_or s (p + 2 + k) 0) (get_or s p 0) few k h

  view_dimension_at_lem : (k : ℕ) → k < sized_rank (has_dimensions s p) (get_or s p 0) → the_view_dimension (view_at s p).dimensions k ≡ view_dimension_at s (p + 2 + get_or s p 0 + k * 4)
  unfolding view_at view_of view_dimensions_at
  view_dimension_at_lem k h =
      places_given rank_places no_view_dimension no_view_dimension (λ (k : ℕ). view_dimension_at s (p + 2 + get_or s p 0 + k * 4)) _ own_few k h

  pub has_view : AreBytes s → Has s p 0 (view_bytes (view_at s p))
  unfolding view_at view_of
  has_view b =
      let q = p + 2 + get_or s p 0 in
      let n = sized_rank (has_dimensions s p) (get_or s p 0) in
      let ps = (view_at s p).permutation in
      let ds = (view_at s p).dimensions in
      whole s p (view_at s p)
      (record {
        count = refl;
        has = sym (flag_code_of (get_or s (p + 1) 0) has);
        entries =
            has_rows s (p + 2) 1 (get_or s p 0) (entry ps) (λ k h. refl)
            (λ k h. let i : p + 2 + k * 1 + 0 ≡ p + 2 + k = omega arith in (rw i (sym (entry_at k h)), tt));
        dimensions =
            has_rows s q 4 n (row ds) (λ k h. length_view_dimension (the_view_dimension ds k))
            (λ k h. rw (view_dimension_at_lem k h) (has_view_dimension s (q + k * 4) b));
        rows = has_clip s (q + n * 4) b;
        columns = has_clip s (p + 6 + get_or s p 0 + n * 4) b;
      })

  pub view_at_fits : AreBytes s → ViewFits (view_at s p)
  unfolding view_at view_of view_dimensions_at view_dimension_at
  view_at_fits b =
      let q = p + 2 + get_or s p 0 in
      let n = sized_rank (has_dimensions s p) (get_or s p 0) in
      record {
        stride =
            places_all (λ (d : ViewDimension). U16 d.stride) rank_places no_view_dimension (λ (k : ℕ). view_dimension_at s (q + k * 4)) n own_few
            (omega arith) (λ k h. u16_below s b (q + k * 4 + 2));
        rows = clip_fits s (q + n * 4) b;
        columns = clip_fits s (p + 6 + get_or s p 0 + n * 4) b;
      }
