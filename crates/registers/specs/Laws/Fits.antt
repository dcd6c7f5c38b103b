-- Elements fit at the start, and where a register is written whole, copied, or given one element.
use Rattle.std.specs.Prelude.{◌≡◌, refl, List, ℕ, zero, suc, ◌+◌, ◌*◌, ◌/◌, ◌%◌, ◌^◌, ◌<◌, ◌≤◌, length, get_or, replicate}
use Rattle.std.proofs.Common.{◌∙◌, le_refl, not-suc-le-zero, arith, pow_pos, get_or-set_same, get_or-set_other}
use Rattle.numbers.specs.Lists.{line}
use Rattle.numbers.specs.Laws.Choice.{by_place}
use Rattle.numbers.specs.Laws.Lists.{length_line}
use Rattle.numbers.specs.Laws.Places.{none_all}
use Rattle.kinds.specs.Widths.{width}
use Rattle.sheet.specs.Sizes.{register_count, matrix_places, element_places}
use Rattle.registers.specs.Types.{no_type, the_type, with_type}
use Rattle.registers.specs.Registers.{place_of, element_of, with_element_of, with_block, copied_elements, filled_elements, zeroed, empty_registers}
use Rattle.registers.specs.Grids.{numbered, block}
use Rattle.registers.specs.Sized.{SizedType, Sized}
use Rattle.registers.specs.Fits.{FitMatrix, Fit}
use Rattle.registers.specs.Laws.Registers.{own_places, others_kept}
use Rattle.registers.specs.Laws.Sized.{sized_places}
use Rattle.registers.specs.Laws.Grids.{number_row, number_column, blank_given, blank_past}
use Rattle.registers.specs.declared.MatrixType.{MatrixType}
use Rattle.registers.specs.declared.Registers.{Registers}

-- equal places fit alike
fit_same : (t : MatrixType) (g h : ℕ → ℕ) → SizedType t → ((e : ℕ) → e < matrix_places → g e ≡ h e) → FitMatrix t h → FitMatrix t g
fit_same t g h s q f =
    record {
      inside = λ e l. rw (q e (omega (arith, sized_places t s))) (f.inside e l);
      past = λ e l m. q e m ∙ f.past e l m;
    }

-- a block of elements that fit
fit_block : (t : MatrixType) (f : ℕ → ℕ → ℕ) → SizedType t → ((i j : ℕ) → i < t.rows → j < t.columns → f i j < 2 ^ width t.kind)
    → FitMatrix t (λ (e : ℕ). get_or (block t.rows t.columns f) e 0)
unfolding block
fit_block t f s h =
    let m = t.rows in
    let n = t.columns in
    record {
      inside =
          λ e l.
          rw (blank_given (numbered n f) (m * n) (sized_places t s) e l) (h (e / n) (e % n) (number_row m n e l) (number_column m n e l));
      past = λ e l k. blank_past (numbered n f) (m * n) (sized_places t s) e l k;
    }

module _ (ts : List MatrixType) (es : List ℕ) (r : ℕ) (t : MatrixType) where
  -- a register given a type, and places that fit it; past the last register nothing is written
  pub fit_written : (g : ℕ → ℕ) → length ts ≡ register_count → length es ≡ element_places → Sized ts → SizedType t → Fit ts es
      → FitMatrix t g → Fit (with_type ts r t) (line es (place_of r 0) g matrix_places)
  fit_written g p q z s w f =
      record {
        each =
            λ k m.
            by_place k r
            (λ e. rw (e, get_or-set_same ts r t no_type (omega arith)) (fit_same t _ g s (λ i n. own_places es r g i (omega arith) n) f))
            (λ d. rw (get_or-set_other ts r k t no_type d) (fit_same (the_type ts k) _ (element_of es k) (z.each k) (λ i n. others_kept es r g k i d n) (w.each k m)));
      }

  -- a register made a matrix of elements that fit
  pub fit_made : (f : ℕ → ℕ → ℕ) → length ts ≡ register_count → length es ≡ element_places → Sized ts → SizedType t → Fit ts es
      → ((i j : ℕ) → i < t.rows → j < t.columns → f i j < 2 ^ width t.kind) → Fit (with_type ts r t) (with_block es r (block t.rows t.columns f))
  fit_made f p q z s w h = fit_written (λ (e : ℕ). get_or (block t.rows t.columns f) e 0) p q z s w (fit_block t f s h)

-- an element of a register's matrix put
module _ (ts : List MatrixType) (es : List ℕ) (r e x : ℕ) (z : Sized ts) (at : place_of r e < length es) (l : e < (the_type ts r).rows * (the_type ts r).columns) (h : x < 2 ^ width (the_type ts r).kind) (w : Fit ts es) where
  few : e < matrix_places
  few = omega (arith, sized_places (the_type ts r) (z.each r))

  put_inside : (k : ℕ) → k < register_count → (i : ℕ) → i < (the_type ts k).rows * (the_type ts k).columns
      → element_of (with_element_of es r e x) k i < 2 ^ width (the_type ts k).kind
  put_inside k m i n =
      let j : i < matrix_places = omega (arith, sized_places (the_type ts k) (z.each k)) in
      by_place (place_of k i) (place_of r e)
      (λ d. let c : k ≡ r = omega (arith, few) in rw (d, get_or-set_same es (place_of r e) x 0 at, c) h)
      (λ d. rw (get_or-set_other es (place_of r e) (place_of k i) x 0 d) ((w.each k m).inside i n))

  put_past : (k : ℕ) → k < register_count → (i : ℕ) → (the_type ts k).rows * (the_type ts k).columns ≤ i → i < matrix_places
      → element_of (with_element_of es r e x) k i ≡ 0
  put_past k m i n o =
      by_place (place_of k i) (place_of r e)
      (λ d.
      let c : k ≡ r = omega (arith, few) in
      let f : i ≡ e = omega (arith, few) in
      let u : (the_type ts r).rows * (the_type ts r).columns ≤ i = rw c at n in
      absurd (omega arith))
      (λ d. get_or-set_other es (place_of r e) (place_of k i) x 0 d ∙ (w.each k m).past i n o)

  pub fit_put : Fit ts (with_element_of es r e x)
  fit_put = record { each = λ k m. record { inside = put_inside k m; past = put_past k m } }

-- elements of a register's matrix filled
fit_filled : (ts : List MatrixType) (es : List ℕ) (r n x : ℕ) → Sized ts → r < register_count → length es ≡ element_places
    → n ≤ (the_type ts r).rows * (the_type ts r).columns → x < 2 ^ width (the_type ts r).kind → Fit ts es → Fit ts (filled_elements es r 0 n x)
unfolding line
fit_filled ts es r zero x z m q l h w = w
fit_filled ts es r (suc n) x z m q l h w =
    let at : place_of r n < length (filled_elements es r 0 n x) =
    omega (arith, length_line es (place_of r 0) (λ (i : ℕ). x) n, sized_places (the_type ts r) (z.each r))
    in
    let e : place_of r 0 + n ≡ place_of r n = omega arith in
    rw e (fit_put ts (filled_elements es r 0 n x) r n x z at (omega arith) h (fit_filled ts es r n x z m q (omega arith) h w))

-- a register made zeros
pub fit_zeroed : (g : Registers) (r : ℕ) → Sized g.types → r < register_count → length g.elements ≡ element_places
    → Fit g.types g.elements → Fit g.types (zeroed g r).elements
fit_zeroed g r z m q w =
    let t = the_type g.types r in
    fit_filled g.types g.elements r (t.rows * t.columns) 0 z m q (le_refl _) (pow_pos (width t.kind)) w

-- a register made equal to another
pub fit_copied : (ts : List MatrixType) (es : List ℕ) (r s : ℕ) → length ts ≡ register_count → length es ≡ element_places → s < register_count
    → Sized ts → Fit ts es → Fit (with_type ts r (the_type ts s)) (copied_elements es r s)
fit_copied ts es r s p q m z w = fit_written ts es r (the_type ts s) (element_of es s) p q z (z.each s) w (w.each s m)

-- the places of empty registers are 0
pub fit_empty : Fit empty_registers.types empty_registers.elements
unfolding empty_registers
fit_empty =
    record {
      each =
          λ r l.
          none_all (λ (t : MatrixType). FitMatrix t (element_of (replicate element_places 0) r)) register_count no_type no_type (none r) (none r) r;
    }
  where
    none : (r : ℕ) → FitMatrix no_type (element_of (replicate element_places 0) r)
    none r =
        record {
          inside = λ e l. absurd (not-suc-le-zero l);
          past = λ e l m. none_all (λ (x : ℕ). x ≡ 0) element_places 0 0 refl refl (place_of r e);
        }
