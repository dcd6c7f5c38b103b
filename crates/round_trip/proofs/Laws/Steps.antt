-- A step's content, both ways: its bytes read as that step, and what was read has those bytes.
use Rattle.std.specs.Prelude.{ℕ, suc, ◌+◌, ◌<◌, ◌≤◌, ◌≡◌, Bool, false, leb, length}
use Rattle.std.proofs.Math.Path.{refl, ap}
use Rattle.std.proofs.Common.{sym, ◌∙◌, true≢false, arith}
use Rattle.std.proofs.Math.Bool.{true}
use mathlib.Core.List.{List, [], ◌∷◌, ◌++◌}
use Rattle.std.proofs.Math.Nat.{add-zero}
use borrow.Author.Tests.{leb-true, le-leb, lt-ltb, le-ltb, ne_eqb}
use Rattle.std.proofs.Math.Dec.{eqb}
use Rattle.std.proofs.Math.ListN.{get_or}
use Rattle.numbers.specs.Choice.{pick, between}
use Rattle.numbers.specs.Laws.Choice.{pick_case, both_left, both_right, between_low, between_high, between_true}
use Rattle.numbers.specs.Bytes.{AreBytes}
use Rattle.numbers.specs.Little.{u16_bytes, u32_bytes}
use Rattle.sheet.specs.Sizes.{view_places}
use Rattle.sheet.specs.Editions.{has_vectors, no_object, tag_known, fill_length}
use Rattle.sheet.specs.Codes.{edition_tag, layout_tag, view_tag, fill_tag, load_tag, store_tag, reduce_tag, transpose_tag, multiply_tag, vector_tag, last_step_tag, reduce_mode, reduce_code, combine_of, combine_code, memory_layout, memory_layout_code, flag_code, object_of, viewing_of}
use Rattle.sheet_ranges.specs.Steps.{window_ok, load_ok, store_ok, vector_ok, whole_ok, step_ok, step_unused}
use Rattle.sheet.specs.declared.Window.{Window}
use Rattle.sheet.specs.declared.Step.{Step}
use Rattle.sheet.specs.declared.Step.TheVariants.{Nothing, Load, Store, Whole}
use Rattle.sheet.specs.declared.WholeStep.{WholeStep}
use Rattle.sheet.specs.declared.WholeStep.TheVariants.{Fill, Reduce, Transpose, MultiplyAdd, Vector}
use Rattle.sheet.specs.declared.VectorStep.{VectorStep}
use Rattle.step_contents.specs.Contents.{fill_at, window_at, load_at, store_at, reduce_at, transpose_at, multiply_at, vector_numbers, vector_at, step_at, step_length}
use Rattle.sheet_reader.specs.Reading.{field_refusal, step_refusal}
use Rattle.sheet_reader.specs.declared.Given.{Given}
use Rattle.step_bytes.specs.Bytes.{whole_tag, step_tag, window_bytes, vector_operands, vector_places, vector_bytes, whole_bytes, step_bytes}
use Rattle.round_trip.specs.Typed.{VectorFits, StepFits}
use Rattle.fields.specs.Laws.Stretches.{Has, has_shift, has_back, has_append, u16_of, u32_of, u16_below, u32_below, has_u16, has_u32}
use Rattle.round_trip.proofs.Laws.Codes.{one_of, reduce_mode_of, reduce_code_between, reduce_code_of, combine_of_lem, combine_code_small, combine_code_of, memory_layout_of, memory_layout_code_small, memory_layout_code_of, flag_of, flag_code_small, flag_code_of, object_of_lem, object_code_of, viewing_of_lem, viewing_code_of}

-- from the bytes to the step
module _ (s : List ℕ) (p : ℕ) where
  window_of : (layouts views : ℕ) → views ≤ view_places → (w : Window) → window_ok layouts views w ≡ true → Has s p 0 (window_bytes w) → window_at s p ≡ w
  unfolding window_at window_ok
  window_of layouts views few w ok h =
      let l : get_or s p 0 ≡ w.layout = rw add-zero at h.0 in
      let v : viewing_of (get_or s (p + 1) 0) ≡ w.view = ap viewing_of h.1.0 ∙ viewing_of_lem views few w.view (both_right _ _ ok) in
      let b = u32_of s p 2 w.base [] h.1.1 in
      λ i. record { layout = l i; view = v i; base = b i }

  reduce_of : (mode combine : ℕ) {r : Step} → get_or s (p + 4) 0 ≡ mode → get_or s (p + 5) 0 ≡ combine → 1 ≤ mode → mode ≤ 4 → combine ≤ 5 → Whole (Reduce (get_or s p 0) (get_or s (p + 1) 0) (get_or s (p + 2) 0) (get_or s (p + 3) 0) (reduce_mode mode) (combine_of combine)) ≡ r → reduce_at s p ≡ r
  unfolding reduce_at pick
  reduce_of mode combine m c low high few e = rw (m, c, between_true 1 4 mode low high, le-leb combine 5 few) e

  numbers_of : (v : VectorStep) → Has s p 0 (vector_bytes v) → vector_numbers s p ≡ v
  unfolding vector_numbers
  numbers_of v h =
      let a : get_or s p 0 ≡ v.result = rw add-zero at h.0 in
      let m = h.1.1.1.1 in
      let l : memory_layout (get_or s (p + 7) 0) ≡ v.layout = ap memory_layout m.1.1.1.0 ∙ memory_layout_of v.layout in
      let q = m.1.1.1.1 in
      let t = u16_of s p 8 v.stride q.0 q.1.0 in
      let o = u32_of s p 10 v.offset ((flag_code v.biased ∷ []) ++ u32_bytes v.bias) q.1.1 in
      let f = q.1.1.1.1.1.1 in
      let g : eqb (get_or s (p + 14) 0) 1 ≡ v.biased = ap (λ (x : ℕ). eqb x 1) f.0 ∙ flag_of v.biased in
      let b = u32_of s p 15 v.bias [] f.1 in
      λ i.
      record {
        result = a i;
        kind = h.1.0 i;
        input = h.1.1.0 i;
        interpretation = h.1.1.1.0 i;
        matrix = m.0 i;
        rows = m.1.0 i;
        columns = m.1.1.0 i;
        layout = l i;
        stride = t i;
        offset = o i;
        biased = g i;
        bias = b i;
      }

  vector_of : (v : VectorStep) → Has s p 0 (vector_bytes v) → vector_at s p ≡ Whole (Vector v)
  unfolding vector_at pick
  vector_of v h =
      let m = h.1.1.1.1.1.1.1 in
      let l = memory_layout_code_small v.layout in
      let b = flag_code_small v.biased in
      rw (m.0, m.1.1.1.1.1.1.1.0, le-leb (memory_layout_code v.layout) 1 l, le-leb (flag_code v.biased) 1 b, numbers_of v h)

  whole_of : (edition : ℕ) (w : WholeStep) → Has s p 0 (whole_bytes edition w) → step_at edition s (whole_tag w) p ≡ Whole w
  unfolding step_at fill_at transpose_at multiply_at pick
  whole_of edition (Fill register rows columns kind value) h =
      let a : get_or s p 0 ≡ register = rw add-zero at h.0 in
      let v = u32_of s p 4 value [] h.1.1.1.1 in
      λ i. Whole (Fill (a i) (h.1.0 i) (h.1.1.0 i) (h.1.1.1.0 i) (v i))
  whole_of edition (Reduce result source rows columns mode combine) h =
      let a : get_or s p 0 ≡ result = rw add-zero at h.0 in
      let t = h.1.1.1.1 in
      let m = reduce_mode_of mode in
      let c = combine_of_lem combine in
      let b = reduce_code_between mode in
      reduce_of (reduce_code mode) (combine_code combine) t.0 t.1.0 b.0 b.1 (combine_code_small combine)
      (λ i. Whole (Reduce (a i) (h.1.0 i) (h.1.1.0 i) (h.1.1.1.0 i) (m i) (c i)))
  whole_of edition (Transpose result source) h =
      let a : get_or s p 0 ≡ result = rw add-zero at h.0 in
      λ i. Whole (Transpose (a i) (h.1.0 i))
  whole_of edition (MultiplyAdd result x y z) h =
      let a : get_or s p 0 ≡ result = rw add-zero at h.0 in
      λ i. Whole (MultiplyAdd (a i) (h.1.0 i) (h.1.1.0 i) (h.1.1.1.0 i))
  whole_of edition (Vector v) h = vector_of v h

module _ (s : List ℕ) (p edition layouts views : ℕ) (few : views ≤ view_places) where
  pub step_of : (st : Step) → step_ok edition layouts views st ≡ true → Has s p 0 (step_bytes edition st) → step_at edition s (step_tag st) p ≡ st
  unfolding step_at load_at store_at load_ok store_ok pick
  step_of Nothing e h = absurd (true≢false (sym e))
  step_of (Load register object window) e h =
      let a : get_or s p 0 ≡ register = rw add-zero at h.0 in
      let o : object_of (no_object edition) (get_or s (p + 1) 0) ≡ object =
      ap (object_of (no_object edition)) h.1.0 ∙ object_of_lem edition object (both_left _ _ (both_right _ _ e))
      in
      let w = window_of s (p + 2) layouts views few window (both_right _ _ (both_right _ _ e)) (has_shift s p 2 0 (window_bytes window) h.1.1) in
      λ i. Load (a i) (o i) (w i)
  step_of (Store register window) e h =
      let a : get_or s p 0 ≡ register = rw add-zero at h.0 in
      let w = window_of s (p + 1) layouts views few window (both_right _ _ e) (has_shift s p 1 0 (window_bytes window) h.1) in
      λ i. Store (a i) (w i)
  step_of (Whole whole) e h = whole_of s p edition whole h

-- a tag other than a vector step's is known in each edition, and that in those with vectors
known_in : (edition tag : ℕ) → pick (eqb tag vector_tag) (has_vectors edition) true ≡ true → tag_known edition tag ≡ true
unfolding tag_known
known_in edition tag e = rw e (pick_case (λ (b : Bool). b ≡ true) (eqb edition 0) true true (λ q. refl) (λ q. refl))

-- a whole step's tag and bytes: the length that its tag has, at most 19, a tag of a step, and one that its edition knows
record Tagged (edition : ℕ) (w : WholeStep) : Type 0 where
  long : length (whole_bytes edition w) ≡ step_length edition (whole_tag w)
  short : length (whole_bytes edition w) ≤ 19
  low : fill_tag ≤ whole_tag w
  high : whole_tag w ≤ last_step_tag
  known : whole_ok edition w ≡ true → tag_known edition (whole_tag w) ≡ true

tagged : (edition : ℕ) (w : WholeStep) → Tagged edition w
unfolding step_length fill_length vector_ok pick
tagged edition (Fill register rows columns kind value) =
    record { long = refl; short = omega arith; low = omega arith; high = omega arith; known = λ e. known_in edition fill_tag refl }
tagged edition (Reduce result source rows columns mode combine) =
    record { long = refl; short = omega arith; low = omega arith; high = omega arith; known = λ e. known_in edition reduce_tag refl }
tagged edition (Transpose result source) =
    record { long = refl; short = omega arith; low = omega arith; high = omega arith; known = λ e. known_in edition transpose_tag refl }
tagged edition (MultiplyAdd result a b c) =
    record { long = refl; short = omega arith; low = omega arith; high = omega arith; known = λ e. known_in edition multiply_tag refl }
tagged edition (Vector v) =
    record { long = refl; short = omega arith; low = omega arith; high = omega arith; known = λ e. known_in edition vector_tag (both_left _ _ e) }

-- a step's content has at most 19 bytes
pub step_short : (edition : ℕ) (st : Step) → length (step_bytes edition st) ≤ 19
step_short edition Nothing = omega arith
step_short edition (Load register object window) = omega arith
step_short edition (Store register window) = omega arith
step_short edition (Whole whole) = (tagged edition whole).short

-- of a step that a sheet may hold
module _ (edition layouts views : ℕ) where
  pub step_long : (st : Step) → step_ok edition layouts views st ≡ true → length (step_bytes edition st) ≡ step_length edition (step_tag st)
  unfolding step_length pick
  step_long Nothing e = absurd (true≢false (sym e))
  step_long (Load register object window) e = refl
  step_long (Store register window) e = refl
  step_long (Whole whole) e = (tagged edition whole).long

  pub tag_range : (st : Step) → step_ok edition layouts views st ≡ true → (fill_tag ≤ step_tag st) × (step_tag st ≤ last_step_tag)
  tag_range Nothing e = absurd (true≢false (sym e))
  tag_range (Load register object window) e = omega arith
  tag_range (Store register window) e = omega arith
  tag_range (Whole whole) e = ((tagged edition whole).low, (tagged edition whole).high)

  pub tag_known_lem : (st : Step) → step_ok edition layouts views st ≡ true → tag_known edition (step_tag st) ≡ true
  unfolding pick
  tag_known_lem Nothing e = absurd (true≢false (sym e))
  tag_known_lem (Load register object window) e = known_in edition load_tag refl
  tag_known_lem (Store register window) e = known_in edition store_tag refl
  tag_known_lem (Whole whole) e = (tagged edition whole).known e

-- a tag from a fill's to the last is judged as a step's
pub tag_judged : (s : List ℕ) (tag p len : ℕ) (g : Given) → fill_tag ≤ tag → tag ≤ last_step_tag → field_refusal s tag p len g ≡ step_refusal s tag p len g
unfolding field_refusal pick
tag_judged s tag p len g l h =
    let apart : (x : ℕ) → x < fill_tag → eqb tag x ≡ false = λ x b. ne_eqb tag x (λ e. omega arith) in
    rw (apart edition_tag (omega arith), apart layout_tag (omega arith), apart view_tag (omega arith), le-ltb tag fill_tag l, lt-ltb tag (suc last_step_tag) (omega arith))

pub no_step : (st : Step) → step_unused st ≡ true → st ≡ Nothing
no_step Nothing e = refl
no_step (Load register object window) e = absurd (true≢false (sym e))
no_step (Store register window) e = absurd (true≢false (sym e))
no_step (Whole whole) e = absurd (true≢false (sym e))

-- from the step that was read to the bytes
pub record StepRead (s : List ℕ) (p edition tag : ℕ) (st : Step) : Type 0 where
  pub tagged : step_tag st ≡ tag
  pub long : length (step_bytes edition st) ≡ step_length edition tag
  pub stands : AreBytes s → Has s p 0 (step_bytes edition st)
  pub fits : AreBytes s → StepFits st

at_start : (s : List ℕ) (p : ℕ) → get_or s (p + 0) 0 ≡ get_or s p 0
at_start s p = rw add-zero

has_window : (s : List ℕ) (p : ℕ) → AreBytes s → Has s p 0 (window_bytes (window_at s p))
unfolding window_at
has_window s p b = (at_start s p, (sym (viewing_code_of (get_or s (p + 1) 0)), has_u32 s b p 2))

window_fits : (s : List ℕ) (p : ℕ) → AreBytes s → (window_at s p).base < 4294967296
unfolding window_at
window_fits s p b = u32_below s b (p + 2)

has_vector : (s : List ℕ) (p : ℕ) → get_or s (p + 7) 0 ≤ 1 → get_or s (p + 14) 0 ≤ 1 → AreBytes s → Has s p 0 (vector_bytes (vector_numbers s p))
unfolding vector_numbers
has_vector s p l f b =
    let v = vector_numbers s p in
    let x = u16_bytes v.stride in
    let y = u32_bytes v.offset in
    let z = flag_code v.biased ∷ [] in
    let m = sym (memory_layout_code_of (get_or s (p + 7) 0) l) in
    let g = sym (flag_code_of (get_or s (p + 14) 0) f) in
    has_append s p 0 (vector_operands v) (vector_places v) (at_start s p, (refl, (refl, (refl, (refl, (refl, (refl, (m, tt))))))))
    (has_append s p 8 (x ++ y ++ z) (u32_bytes v.bias)
    (has_append s p 8 (x ++ y) z (has_append s p 8 x y (has_u16 s b p 8) (has_u32 s b p 10)) (g, tt))
    (has_u32 s b p 15))

vector_fits : (s : List ℕ) (p : ℕ) → AreBytes s → VectorFits (vector_numbers s p)
unfolding vector_numbers
vector_fits s p b = record { stride = u16_below s b (p + 8); offset = u32_below s b (p + 10); bias = u32_below s b (p + 15) }

module _ (s : List ℕ) (p edition layouts views : ℕ) where
  abbrev Reads : ℕ → Type 0
  Reads tag = step_ok edition layouts views (step_at edition s tag p) ≡ true → StepRead s p edition tag (step_at edition s tag p)

  fill_read : Reads fill_tag
  unfolding step_at fill_at step_length fill_length pick
  fill_read e = record { tagged = refl; long = refl; stands = λ b. (at_start s p, (refl, (refl, (refl, has_u32 s b p 4)))); fits = λ b. tt }

  load_read : Reads load_tag
  unfolding step_at load_at step_length pick
  load_read e =
      record {
        tagged = refl;
        long = refl;
        stands = λ b. (at_start s p, (sym (object_code_of edition (get_or s (p + 1) 0)), has_back s p 2 0 (window_bytes (window_at s (p + 2))) (has_window s (p + 2) b)));
        fits = window_fits s (p + 2);
      }

  store_read : Reads store_tag
  unfolding step_at store_at step_length pick
  store_read e =
      record {
        tagged = refl;
        long = refl;
        stands = λ b. (at_start s p, has_back s p 1 0 (window_bytes (window_at s (p + 1))) (has_window s (p + 1) b));
        fits = window_fits s (p + 1);
      }

  reduce_read : Reads reduce_tag
  unfolding step_at reduce_at step_length pick
  reduce_read =
      pick_case Q (between 1 4 (get_or s (p + 4) 0)) _ Nothing
      (λ m.
      pick_case Q (leb (get_or s (p + 5) 0) 5) _ Nothing
      (λ c e.
      let mc = reduce_code_of (get_or s (p + 4) 0) (between_low 1 4 _ m) (between_high 1 4 _ m) in
      let cb = combine_code_of (get_or s (p + 5) 0) (leb-true _ 5 c) in
      record { tagged = refl; long = refl; stands = λ b. (at_start s p, (refl, (refl, (refl, (sym mc, (sym cb, tt)))))); fits = λ b. tt })
      (λ c e. absurd (true≢false (sym e))))
      (λ m e. absurd (true≢false (sym e)))
    where
      Q : Step → Type 0
      Q st = step_ok edition layouts views st ≡ true → StepRead s p edition reduce_tag st

  transpose_read : Reads transpose_tag
  unfolding step_at transpose_at step_length pick
  transpose_read e = record { tagged = refl; long = refl; stands = λ b. (at_start s p, (refl, tt)); fits = λ b. tt }

  multiply_read : Reads multiply_tag
  unfolding step_at multiply_at step_length pick
  multiply_read e = record { tagged = refl; long = refl; stands = λ b. (at_start s p, (refl, (refl, (refl, tt)))); fits = λ b. tt }

  vector_read : Reads vector_tag
  unfolding step_at vector_at step_length pick
  vector_read =
      pick_case Q (leb (get_or s (p + 7) 0) 1) _ Nothing
      (λ l.
      pick_case Q (leb (get_or s (p + 14) 0) 1) _ Nothing
      (λ f e. record { tagged = refl; long = refl; stands = has_vector s p (leb-true _ 1 l) (leb-true _ 1 f); fits = vector_fits s p })
      (λ f e. absurd (true≢false (sym e))))
      (λ l e. absurd (true≢false (sym e)))
    where
      Q : Step → Type 0
      Q st = step_ok edition layouts views st ≡ true → StepRead s p edition vector_tag st

  pub step_read : (tag : ℕ) → fill_tag ≤ tag → tag ≤ last_step_tag → Reads tag
  step_read tag h l =
      one_of Reads fill_tag 7 (fill_read, (load_read, (store_read, (reduce_read, (transpose_read, (multiply_read, (vector_read, tt))))))) tag h (omega arith)
