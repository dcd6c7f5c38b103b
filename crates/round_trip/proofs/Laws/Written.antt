-- The bytes of a model that is writable and whose numbers fit their types are bytes.
use Rattle.std.specs.Prelude.{ℕ, zero, suc, ◌^◌, ◌<◌, ◌≤◌, ◌≡◌, Bool, true, List, [], ◌∷◌, ◌++◌, ltb, length, get_or}
use Rattle.std.proofs.Common.{sym, true≢false, arith}
use borrow.Author.Tests.{ltb-true, leb-true}
use Rattle.numbers.specs.Choice.{pick}
use Rattle.numbers.specs.Laws.Choice.{pick_case, both_left, both_right, between_high}
use Rattle.numbers.specs.Little.{u16_bytes, u32_bytes}
use Rattle.numbers.specs.Lists.{each}
use Rattle.numbers.specs.Bytes.{AreBytes}
use Rattle.kinds.specs.Widths.{kind_ok, width, fits}
use Rattle.kinds.specs.Interpretations.{packed, packed_signed, packed_unsigned, interpretation_ok}
use Rattle.sheet.specs.Sizes.{register_count, layout_places, view_places, size_limit, size_ok}
use Rattle.sheet.specs.Editions.{newest_edition, edition_ok, limits, side_ok}
use Rattle.sheet.specs.Laws.Editions.{limits_side}
use Rattle.sheet.specs.Codes.{edition_tag, layout_tag, view_tag, clamp_code, flag_code}
use Rattle.tensor_ranges.specs.Layouts.{the_dimension, the_layout, dimension_ok, layout_ok}
use Rattle.tensor_ranges.specs.Views.{the_view_dimension, the_view, sized_rank, view_ok}
use Rattle.sheet_ranges.specs.Steps.{the_step, fill_ok, window_ok, load_ok, store_ok, reduce_ok, transpose_ok, multiply_ok, vector_ok, whole_ok, step_ok}
use Rattle.tensor_ranges.specs.Laws.Facts.{layout_most, view_most, view_entry}
use Rattle.sheet_ranges.specs.Laws.Within.{Within}
use Rattle.sheet.specs.declared.Dimension.{Dimension}
use Rattle.sheet.specs.declared.Layout.{Layout}
use Rattle.sheet.specs.declared.ViewDimension.{ViewDimension}
use Rattle.sheet.specs.declared.Clip.{Clip}
use Rattle.sheet.specs.declared.View.{View}
use Rattle.sheet.specs.declared.Window.{Window}
use Rattle.sheet.specs.declared.Step.{Step}
use Rattle.sheet.specs.declared.Step.TheVariants.{Nothing, Load, Store, Whole}
use Rattle.sheet.specs.declared.WholeStep.{WholeStep}
use Rattle.sheet.specs.declared.WholeStep.TheVariants.{Fill, Reduce, Transpose, MultiplyAdd, Vector}
use Rattle.sheet.specs.declared.VectorStep.{VectorStep}
use Rattle.sheet.specs.declared.Sheet.{Sheet}
use Rattle.fields.specs.Bytes.{head_bytes, field_bytes}
use Rattle.sheet_bytes.specs.Bytes.{edition_field, dimension_bytes, dimensions_bytes, layout_bytes, layout_field, entries_bytes, view_dimension_bytes, view_dimensions_bytes, clip_bytes, view_bytes, view_field}
use Rattle.sheet_bytes.specs.Laws.Lengths.{length_layout, length_view, sized_within}
use Rattle.step_bytes.specs.Bytes.{step_tag, window_bytes, vector_operands, vector_places, vector_bytes, whole_bytes, step_bytes, step_field}
use Rattle.sheet_writer.specs.Bytes.{layouts_bytes, views_bytes, steps_bytes, sheet_bytes}
use Rattle.round_trip.specs.Typed.{U16, U32, DimensionFits, LayoutFits, ClipFits, ViewFits, VectorFits, WholeFits, StepFits, SheetFits}
use Rattle.round_trip.proofs.Laws.Codes.{clamp_code_small, reduce_code_between, combine_code_small, memory_layout_code_small, flag_code_small, object_code_small, viewing_code_small}
use Rattle.round_trip.proofs.Laws.Layouts.{layout_held}
use Rattle.round_trip.proofs.Laws.Views.{view_held}
use Rattle.round_trip.proofs.Laws.Steps.{step_short, tag_range}

-- each number of s is a byte, from the first on
abbrev Below : List ℕ → Type 0
Below [] = Unit {0}
Below (x ∷ s) = (x < 256) × Below s

below_bytes : (s : List ℕ) → Below s → AreBytes s
below_bytes [] b i h = absurd (omega arith)
below_bytes (x ∷ s) b zero h = b.0
below_bytes (x ∷ s) b (suc i) h = below_bytes s b.1 i (omega arith)

below_append : (a b : List ℕ) → Below a → Below b → Below (a ++ b)
below_append [] b p q = q
below_append (x ∷ a) b p q = (p.0, below_append a b p.1 q)

below_each : (n : ℕ) (f : ℕ → List ℕ) → ((k : ℕ) → k < n → Below (f k)) → Below (each n f)
unfolding each
below_each zero f h = tt
below_each (suc n) f h = below_append (each n f) (f n) (below_each n f (λ k l. h k (omega arith))) (h n (omega arith))

below_u16 : (x : ℕ) → U16 x → Below (u16_bytes x)
below_u16 x h = omega arith

below_u32 : (x : ℕ) → U32 x → Below (u32_bytes x)
below_u32 x h = omega arith

below_field : (tag : ℕ) (content : List ℕ) → tag < 256 → U16 (length content) → Below content → Below (field_bytes tag content)
unfolding field_bytes
below_field tag content t l b = below_append (head_bytes tag (length content)) content (t, below_u16 (length content) l) b

-- layouts
size_below : (x : ℕ) → size_ok x ≡ true → U16 x
size_below x e = omega (arith, between_high 1 size_limit x e)

below_dimension : (d : Dimension) → dimension_ok d ≡ true → DimensionFits d → Below (dimension_bytes d)
unfolding dimension_bytes dimension_ok
below_dimension d e f =
    let e1 = both_right _ _ e in
    let e2 = both_right _ _ e1 in
    let b = size_below d.block (both_left _ _ e) in
    let z = size_below d.size (both_left _ _ e1) in
    let n = size_below d.span (both_right _ _ (both_right _ _ e1)) in
    let t = f.stride in
    let o = f.offset in
    omega arith

below_layout : (l : Layout) → layout_ok l ≡ true → LayoutFits l → Below (layout_bytes l)
unfolding layout_bytes
below_layout l e f =
    let r = layout_most l e in
    below_append ((l.rank ∷ clamp_code l.mode ∷ []) ++ u32_bytes l.clamp) (dimensions_bytes l.rank l.dimensions)
    (omega arith, (omega (arith, clamp_code_small l.mode), below_u32 l.clamp f.clamp))
    (below_each l.rank (λ (k : ℕ). dimension_bytes (the_dimension l.dimensions k)) (λ k h. below_dimension (the_dimension l.dimensions k) ((layout_held l e).given k h) (f.dimension k)))

-- views
below_clip : (c : Clip) → ClipFits c → Below (clip_bytes c)
unfolding clip_bytes
below_clip c f = let o = f.offset in let n = f.span in omega arith

below_view_dimension : (d : ViewDimension) → size_ok d.size ≡ true → U16 d.stride → Below (view_dimension_bytes d)
unfolding view_dimension_bytes
below_view_dimension d e f = let z = size_below d.size e in omega arith

below_view : (v : View) → view_ok v ≡ true → ViewFits v → Below (view_bytes v)
unfolding view_bytes
below_view v e f =
    let r = view_most v e in
    let w = view_held v e in
    let n = sized_rank v.sized v.rank in
    let a = v.rank ∷ flag_code v.sized ∷ [] in
    let b = entries_bytes v.rank v.permutation in
    let c = view_dimensions_bytes n v.dimensions in
    let entries = below_each v.rank (λ (k : ℕ). get_or v.permutation k 0 ∷ []) (λ k h. (omega (arith, view_entry v e k h), tt)) in
    let dims = below_each n (λ (k : ℕ). view_dimension_bytes (the_view_dimension v.dimensions k)) (λ k h. below_view_dimension (the_view_dimension v.dimensions k) (w.given k h) (f.stride k)) in
    below_append (a ++ b ++ c ++ clip_bytes v.rows) (clip_bytes v.columns)
    (below_append (a ++ b ++ c) (clip_bytes v.rows)
    (below_append (a ++ b) c (below_append a b (omega arith, (omega (arith, flag_code_small v.sized), tt)) entries) dims)
    (below_clip v.rows f.rows))
    (below_clip v.columns f.columns)

-- steps
value_below : (kind x : ℕ) → fits kind x ≡ true → U32 x
unfolding fits width
value_below kind x =
    pick_case (λ (w : ℕ). ltb x (2 ^ w) ≡ true → U32 x) (ltb kind 2) 8 (pick (ltb kind 4) 16 32)
    (λ q e. omega (arith, ltb-true x 256 e))
    (λ q.
    pick_case (λ (w : ℕ). ltb x (2 ^ w) ≡ true → U32 x) (ltb kind 4) 16 32
    (λ q e. omega (arith, ltb-true x 65536 e)) (λ q e. ltb-true x 4294967296 e))

register_below : (x : ℕ) → ltb x register_count ≡ true → x < 256
register_below x e = omega (arith, ltb-true x register_count e)

side_below : (edition x : ℕ) → side_ok edition x ≡ true → x < 256
side_below edition x e = omega (arith, between_high 1 (limits edition).side x e, limits_side edition)

edition_below : (edition : ℕ) → edition_ok edition ≡ true → edition < 256
edition_below edition e = omega (arith, between_high 1 newest_edition edition e)

interpretation_below : (x : ℕ) → interpretation_ok x ≡ true → x < 256
unfolding interpretation_ok
interpretation_below x =
    pick_case (λ (b : Bool). b ≡ true → x < 256) (kind_ok x) true (packed x) (λ q e. omega (arith, leb-true x 5 q))
    (λ q e. omega (arith, between_high packed_signed packed_unsigned x e))

below_vector : (edition : ℕ) (v : VectorStep) → vector_ok edition v ≡ true → VectorFits v → Below (vector_bytes v)
unfolding vector_ok
below_vector edition v e f =
    let e1 = both_right _ _ e in
    let e2 = both_right _ _ e1 in
    let e3 = both_right _ _ e2 in
    let e4 = both_right _ _ e3 in
    let e5 = both_right _ _ e4 in
    let e6 = both_right _ _ e5 in
    let e7 = both_right _ _ e6 in
    let k = between_high 4 5 v.kind (both_left _ _ e2) in
    let m = leb-true v.matrix 5 (both_left _ _ e5) in
    let x = u16_bytes v.stride in
    let y = u32_bytes v.offset in
    let z = flag_code v.biased ∷ [] in
    below_append (vector_operands v) (vector_places v)
    (register_below v.result (both_left _ _ e1), (omega arith, (register_below v.input (both_left _ _ e3), (interpretation_below v.interpretation (both_left _ _ e4), (omega arith, (side_below edition v.rows (both_left _ _ e6), (side_below edition v.columns (both_left _ _ e7), (omega (arith, memory_layout_code_small v.layout), tt))))))))
    (below_append (x ++ y ++ z) (u32_bytes v.bias)
    (below_append (x ++ y) z (below_append x y (below_u16 v.stride f.stride) (below_u32 v.offset f.offset)) (omega (arith, flag_code_small v.biased), tt))
    (below_u32 v.bias f.bias))

below_whole : (edition : ℕ) (w : WholeStep) → whole_ok edition w ≡ true → WholeFits w → Below (whole_bytes edition w)
unfolding fill_ok reduce_ok transpose_ok multiply_ok
below_whole edition (Fill register rows columns kind value) e f =
    let e1 = both_right _ _ e in
    let e2 = both_right _ _ e1 in
    let e3 = both_right _ _ e2 in
    let k = leb-true kind 5 (both_left _ _ e3) in
    (register_below register (both_left _ _ e), (side_below edition rows (both_left _ _ e1), (side_below edition columns (both_left _ _ e2), (omega arith, below_u32 value (value_below kind value (both_right _ _ e3))))))
below_whole edition (Reduce result source rows columns mode combine) e f =
    let e1 = both_right _ _ e in
    let e2 = both_right _ _ e1 in
    (register_below result (both_left _ _ e), (register_below source (both_left _ _ e1), (side_below edition rows (both_left _ _ e2), (side_below edition columns (both_right _ _ e2), (omega (arith, reduce_code_between mode), (omega (arith, combine_code_small combine), tt))))))
below_whole edition (Transpose result source) e f =
    (register_below result (both_left _ _ e), (register_below source (both_right _ _ e), tt))
below_whole edition (MultiplyAdd result a b c) e f =
    let e1 = both_right _ _ e in
    let e2 = both_right _ _ e1 in
    (register_below result (both_left _ _ e), (register_below a (both_left _ _ e1), (register_below b (both_left _ _ e2), (register_below c (both_right _ _ e2), tt))))
below_whole edition (Vector v) e f = below_vector edition v e f

module _ (edition layouts views : ℕ) (fl : layouts ≤ layout_places) (fv : views ≤ view_places) where
  below_window : (w : Window) → window_ok layouts views w ≡ true → U32 w.base → Below (window_bytes w)
  unfolding window_ok
  below_window w e f =
      (omega (arith, ltb-true w.layout layouts (both_left _ _ e)), (viewing_code_small views fv w.view (both_right _ _ e), below_u32 w.base f))

  below_step : (st : Step) → step_ok edition layouts views st ≡ true → StepFits st → Below (step_bytes edition st)
  unfolding load_ok store_ok
  below_step Nothing e f = absurd (true≢false (sym e))
  below_step (Load register object window) e f =
      let e1 = both_right _ _ e in
      (register_below register (both_left _ _ e), (object_code_small edition object (both_left _ _ e1), below_window window (both_right _ _ e1) f))
  below_step (Store register window) e f = (register_below register (both_left _ _ e), below_window window (both_right _ _ e) f)
  below_step (Whole whole) e f = below_whole edition whole e f

-- the whole sheet
module _ (sh : Sheet) (w : Within sh) (f : SheetFits sh) where
  layout_below : (k : ℕ) → k < sh.tensors.layouts → Below (layout_field (the_layout sh.tensors.layout k))
  layout_below k h =
      let l = the_layout sh.tensors.layout k in
      let e = w.tensors.layout.given k h in
      below_field layout_tag (layout_bytes l) (omega arith) (omega (arith, length_layout l, layout_most l e)) (below_layout l e (f.layouts k))

  view_below : (k : ℕ) → k < sh.tensors.views → Below (view_field (the_view sh.tensors.view k))
  view_below k h =
      let v = the_view sh.tensors.view k in
      let e = w.tensors.view.given k h in
      below_field view_tag (view_bytes v) (omega arith) (omega (arith, length_view v, view_most v e, sized_within v.sized v.rank)) (below_view v e (f.views k))

  step_below : (k : ℕ) → k < sh.steps → Below (step_field sh.edition (the_step sh.step k))
  step_below k h =
      let st = the_step sh.step k in
      let t = sh.tensors in
      let e = w.step.given k h in
      below_field (step_tag st) (step_bytes sh.edition st) (omega (arith, tag_range sh.edition t.layouts t.views st e)) (omega (arith, step_short sh.edition st))
      (below_step sh.edition t.layouts t.views w.tensors.layouts w.tensors.views st e (f.steps k))

  pub sheet_bytes_lem : AreBytes (sheet_bytes sh)
  unfolding sheet_bytes
  sheet_bytes_lem =
      let t = sh.tensors in
      let e = edition_field sh.edition in
      let ls = layouts_bytes t.layouts t.layout in
      let vs = views_bytes t.views t.view in
      let ss = steps_bytes sh.edition sh.steps sh.step in
      let one : sh.edition < 256 = edition_below sh.edition w.edition in
      below_bytes (sheet_bytes sh)
      (below_append (e ++ ls ++ vs) ss
      (below_append (e ++ ls) vs
      (below_append e ls (below_field edition_tag (sh.edition ∷ []) (omega arith) (omega arith) (one, tt)) (below_each t.layouts _ layout_below))
      (below_each t.views _ view_below))
      (below_each sh.steps _ step_below))
