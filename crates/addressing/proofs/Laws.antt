-- Laws of the rules' definitions.
use Prim.Native.Nat.{ℕ, zero, suc, ◌+◌, ◌-◌, ◌*◌, ◌/◌, ◌%◌, ◌^◌, ◌<◌, ◌≤◌}
use mathlib.Core.Path.{◌≡◌, refl, sym, ap, ◌∙◌}
use mathlib.Core.Bool.{Bool, true, false, true≢false}
use native.Mathlib.Nat.{not-suc-le-zero, div-add-mod', zero-mul, suc-mul}
use native.Mathlib.Omega.{arith}
use lib.Dec.{ltb, leb}
use lib.IntN.{pos, negsuc, ◌+ℤ◌}
use lib.ListN.{get_or}
use mathlib.Core.List.{List}
use borrow.Author.Tests.{lt-ltb, le-ltb, le-leb, lt-leb, ltb-false}
use Rattle.refusals.specs.Refusals.{index_too_large}
use Rattle.numbers.specs.Choice.{pick}
use Rattle.numbers.specs.Laws.Choice.{pick_case, by_order}
use Rattle.tensor_ranges.specs.Laws.Facts.{InSize, layout_some, layout_block, layout_size, layout_span, view_most, view_size}
use Rattle.tensor_ranges.specs.Layouts.{layout_ok}
use Rattle.tensor_ranges.specs.Views.{the_view_dimension}
use Rattle.addressing.specs.Valid.{ValidAccess, Planned, AtMost}
use Rattle.addressing.specs.Rows.{up_to, last_of, cell_of, Out, Inside}
use Rattle.addressing.specs.Laws.Rows.{tensor_is_up}
use Rattle.addressing.specs.declared.Plan.{Plan}
use Rattle.sheet.specs.declared.ClampMode.{ClampMode}
use Rattle.sheet.specs.declared.Clip.{Clip}
use Rattle.sheet.specs.declared.Dimension.{Dimension}
use Rattle.sheet.specs.declared.Layout.{Layout}
use Rattle.sheet.specs.declared.View.{View}
use Rattle.addressing.specs.declared.Access.{Access}
use Rattle.clamps.specs.declared.Clamped.{Clamped}
use Rattle.clamps.specs.declared.Clamped.TheVariants.{Refused, Discarded, Filled, At}
use Rattle.sheet.specs.Sizes.{rank_places, size_limit}
use Rattle.view_indices.specs.Plans.{sizes_of, strides_of}
use Rattle.view_indices.specs.Laws.Indices.{five_at}
use Rattle.dimensions.specs.declared.Tail.{Tail}
use Rattle.dimensions.specs.Dimensions.{lead, tail_of, tail_numbers}
use Rattle.dimensions.specs.Laws.Tails.{lead_most}
use Rattle.addressing.specs.Plans.{planned}
use Rattle.view_indices.specs.Indices.{view_sizes, view_strides, span_of}
use Rattle.spans.specs.Spans.{span_coordinates}
use Rattle.clamps.specs.Clamps.{twos, coordinate_of, clamped}
use Rattle.clamps.proofs.Laws.Offsets.{lower, upper}
use Rattle.addressing.specs.Rules.{outside_clip, outside_view, elements_of, clip_width, low_bits, part, plus, tensor_index, refused, settled, reached}

-- Rule 1: inside the clip the offset can be subtracted
pub clip_low : (c : Clip) (x : ℕ) → outside_clip c x ≡ false → c.offset ≤ x
unfolding outside_clip
clip_low c x e =
    pick_case (λ (b : Bool). b ≡ false → c.offset ≤ x) (ltb x c.offset) true (leb (c.offset + c.span) x)
    (λ t q. absurd (true≢false q)) (λ t q. ltb-false _ _ t) e

-- a position inside the clip of a view is so in both directions
module _ (v : View) (row col : ℕ) (e : outside_view v row col ≡ false) where
  pub inside_rows : outside_clip v.rows row ≡ false
  unfolding outside_view
  inside_rows =
      pick_case (λ (b : Bool). b ≡ false → outside_clip v.rows row ≡ false) (outside_clip v.rows row) true (outside_clip v.columns col)
      (λ t q. absurd (true≢false q)) (λ t q. t) e

  pub inside_columns : outside_clip v.columns col ≡ false
  unfolding outside_view
  inside_columns =
      pick_case (λ (b : Bool). b ≡ false → outside_clip v.columns col ≡ false) (outside_clip v.rows row) true (outside_clip v.columns col)
      (λ t q. absurd (true≢false q)) (λ t q. q) e

-- an element's row, its column and the columns are no more than the elements
pub column_few : (k n : ℕ) → k % n ≤ k
column_few k n = omega (arith, div-add-mod' k n)

pub columns_few : (rows n k : ℕ) → k < rows * n → n ≤ rows * n
columns_few zero n k h = absurd (not-suc-le-zero (rw zero-mul at h))
columns_few (suc rows) n k h = rw (suc-mul rows n) (omega arith)

-- the fixed dimensions and those after them are all
pub tail_whole : (l : Layout) (t : Tail) → t ≡ tail_of l → lead l + t.rank ≡ l.rank
unfolding tail_of
tail_whole l t e = rw e (omega (arith, lead_most l))

-- a bound may be wider
pub at_most_more : {m n : ℕ} (x : Clamped) → m ≤ n → AtMost m x → AtMost n x
at_most_more Refused h b = b
at_most_more Discarded h b = b
at_most_more Filled h b = b
at_most_more (At x) h b = omega arith

-- the last dimension
module _ (l : Layout) (ok : layout_ok l ≡ true) where
  last_inside_lem : l.rank - 1 < l.rank
  last_inside_lem = omega (arith, layout_some l ok)

  pub last_size : InSize (last_of l).size
  last_size = layout_size l ok (l.rank - 1) last_inside_lem

  pub last_block : InSize (last_of l).block
  last_block = layout_block l ok (l.rank - 1) last_inside_lem

  pub last_span : InSize (last_of l).span
  last_span = layout_span l ok (l.rank - 1) last_inside_lem

-- an element of a row, by what its last dimension gives
pub cell_is : (a : Access) (t s : ℕ) {x : Dimension} (y : Clamped) → x ≡ last_of a.layout → part a.load a.layout.mode x s ≡ y
    → settled a (plus (At t) y) ≡ cell_of a (At t) s
cell_is a t s y e f =
    ap (λ (z : Clamped). settled a (plus (At t) z)) (sym f ∙ ap (λ (d : Dimension). part a.load a.layout.mode d s) e)

-- a coordinate that is inside
part_inside : (load : Bool) (mode : ClampMode) (d : Dimension) (s c : ℕ) → coordinate_of d s ≡ pos c → c < d.size
    → part load mode d s ≡ At (c / d.block * d.stride)
unfolding part clamped pick
part_inside load mode d s c e h = rw (e, lt-leb d.size c h)

past : (s b c : ℕ) → s ≡ b + 1 + c → pos s +ℤ negsuc b ≡ pos c
past s b c e = simp (le-ltb s (suc b) (omega arith)) (ap pos (omega arith))

before : (s b : ℕ) → s ≤ b → pos s +ℤ negsuc b ≡ negsuc (b - s)
before s b h = simp (lt-ltb s (suc b) (omega arith)) (ap negsuc (omega arith))

-- the same by the low 16 bits of the sum: an offset is 16 bits, and below 0 they are past every size
pub part_near : (load : Bool) (mode : ClampMode) (d : Dimension) (s : ℕ) {raw c : ℕ} → InSize d.size → s < size_limit → raw ≡ d.offset → raw < 65536
    → c ≡ (s + raw) % 65536 → c < d.size → part load mode d s ≡ At (c / d.block * d.stride)
part_near load mode d s {raw} {c} ok h e m f g =
    part_inside load mode d s c
    (by_order raw 32768
    (λ l. let z : twos d.offset ≡ pos raw = rw (← e) (lower raw l) in rw z (ap pos (omega arith)))
    (λ l. let z : twos d.offset ≡ negsuc (65535 - raw) = rw (← e) (upper raw m l) in rw z (past s (65535 - raw) c (omega (arith, ok.most)))))
    g

-- coordinates outside
out_below : (d : Dimension) (s b : ℕ) → coordinate_of d s ≡ negsuc b → Out d s
unfolding clamped
out_below d s b e load mode = rw e refl

out_above : (d : Dimension) (s c : ℕ) → coordinate_of d s ≡ pos c → d.size ≤ c → Out d s
unfolding clamped pick
out_above d s c e h load mode = rw (e, le-leb d.size c h) refl

module _ (d : Dimension) (ok : InSize d.size) {raw size : ℕ} (e : raw ≡ d.offset) (f : size ≡ d.size) where
  pub inside_lower : {to : ℕ} → raw < 32768 → to ≡ size - raw → Inside d (record { from = 0; to = to; first = raw })
  inside_lower h t =
      let z : twos d.offset ≡ pos raw = rw (← e) (lower raw h) in
      record {
        starts = omega arith;
        most = λ l. omega (arith, ok.most);
        each = λ load mode i l. part_inside load mode d (0 + i) (raw + i) (rw z (ap pos (omega arith))) (omega arith);
        below = λ s l. absurd (not-suc-le-zero l);
        above = λ s l. out_above d s (s + raw) (rw z refl) (omega arith);
      }

  pub inside_upper : raw < 65536 → 32768 ≤ raw → Inside d (record { from = 65536 - raw; to = 65536 - raw + size; first = 0 })
  inside_upper l h =
      let z : twos d.offset ≡ negsuc (65535 - raw) = rw (← e) (upper raw l h) in
      record {
        starts = omega arith;
        most = λ m. omega (arith, ok.most);
        each = λ load mode i m. part_inside load mode d (65536 - raw + i) (0 + i) (rw z (past (65536 - raw + i) (65535 - raw) (0 + i) (omega arith))) (omega arith);
        below = λ s m. out_below d s (65535 - raw - s) (rw z (before s (65535 - raw) (omega arith)));
        above = λ s m. out_above d s (s - (65536 - raw)) (rw z (past s (65535 - raw) (s - (65536 - raw)) (omega arith))) (omega arith);
      }

module _ (a : Access) where
  pub reached_far : (index : ℕ) → 2 ^ 32 ≤ index → refused index_too_large ≡ reached a index
  unfolding reached pick
  reached_far index h = rw (le-leb _ _ h)

  pub reached_is : (index : ℕ) (x : Clamped) → index < 2 ^ 32
      → tensor_index a.load a.layout (span_coordinates a.layout index) a.layout.rank ≡ x → settled a x ≡ reached a index
  unfolding reached pick
  reached_is index x h e = rw (lt-leb _ _ h, e)

  -- the same by what the loop over the dimensions after the fixed ones gives
  pub reached_up : (index : ℕ) (x : Clamped) (t : Tail) → ValidAccess a → t ≡ tail_of a.layout → index < 2 ^ 32
      → up_to a.load a.layout (lead a.layout + t.rank) index ≡ x → settled a x ≡ reached a index
  reached_up index x t ok e h f =
      reached_is index x h (tensor_is_up a.load a.layout ok.sized.layout index ∙ (rw (tail_whole a.layout t e) at f))

-- Rule 2: the sizes of a view's dimensions
pub view_sizes_in : (a : Access) → ValidAccess a → a.viewed ≡ true → (i : ℕ) → i < a.view.rank
    → InSize (get_or (view_sizes a.layout a.view) i 0)
unfolding view_sizes
view_sizes_in a ok e i h =
    let m : i < rank_places = omega (arith, view_most a.view (ok.sized.view e)) in
    pick_case (λ (l : List ℕ). InSize (get_or l i 0)) a.view.sized _ _
    (λ t. rw (five_at (λ (k : ℕ). (the_view_dimension a.view.dimensions k).size) i m) (view_size a.view (ok.sized.view e) i h t))
    (λ t. rw (five_at (span_of a.layout) i m) (layout_span a.layout ok.sized.layout i (omega (arith, ok.ranks e t))))

-- a plan is put together of its parts
pub plan_is : (a : Access) {width fill : ℕ} {sizes strides numbers : List ℕ} {tail : Tail}
    → width ≡ clip_width a.view a.columns → fill ≡ low_bits a → sizes ≡ sizes_of a.viewed a.layout a.view → strides ≡ strides_of a.viewed a.layout a.view
    → tail ≡ tail_of a.layout → numbers ≡ tail_numbers a.layout
    → record { access = a; count = elements_of a; width = width; fill = fill; sizes = sizes; strides = strides; tail = tail; numbers = numbers } ≡ planned a
unfolding planned
plan_is a e f g h i j = rw (e, f, g, h, i, j) refl

-- the parts of a plan
module _ (p : Plan) (ok : Planned p) where
  pub plan_width : p.width ≡ clip_width p.access.view p.access.columns
  unfolding planned
  plan_width = ap (λ (q : Plan). q.width) ok.same

  pub plan_sizes : p.access.viewed ≡ true → p.sizes ≡ view_sizes p.access.layout p.access.view
  unfolding planned sizes_of pick
  plan_sizes e = rw e at (ap (λ (q : Plan). q.sizes) ok.same)

  pub plan_strides : p.access.viewed ≡ true → p.strides ≡ view_strides p.access.layout p.access.view
  unfolding planned strides_of pick
  plan_strides e = rw e at (ap (λ (q : Plan). q.strides) ok.same)

  pub plan_numbers : p.numbers ≡ tail_numbers p.access.layout
  unfolding planned
  plan_numbers = ap (λ (q : Plan). q.numbers) ok.same

  pub plan_tail : p.tail ≡ tail_of p.access.layout
  unfolding planned
  plan_tail = ap (λ (q : Plan). q.tail) ok.same

-- a fact, and what follows from it
pub and_so : {P Q : Type 0} → P → (P → Q) → P × Q
and_so p f = (p, f p)
