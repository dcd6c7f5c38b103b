-- Places past a matrix are 0 at the start, and where a register is written whole, copied, or given one element. Where they are, a matrix that is
-- written over another need not be written past both.
use Rattle.std.specs.Prelude.{◌≡◌, refl, List, ℕ, zero, suc, ◌+◌, ◌-◌, ◌*◌, ◌<◌, ◌≤◌, length, get_or}
use Rattle.std.proofs.Common.{sym, ◌∙◌, arith, ext_get_or, get_or-set_same, get_or-set_other}
use Rattle.numbers.specs.Lists.{line}
use Rattle.numbers.specs.Laws.Choice.{by_place, by_order}
use Rattle.numbers.specs.Laws.Lists.{length_line}
use Rattle.numbers.specs.Laws.Lines.{line_inside, line_outside}
use Rattle.numbers.specs.Laws.Places.{none_all}
use Rattle.sheet.specs.Sizes.{register_count, matrix_places, element_places}
use Rattle.registers.specs.Types.{no_type, the_type, with_type}
use Rattle.registers.specs.Registers.{place_of, element_of, with_element_of, with_block, copied_elements, filled_elements, zeroed, empty_registers}
use Rattle.registers.specs.Grids.{block, block_on}
use Rattle.registers.specs.Sized.{SizedType, Sized}
use Rattle.registers.specs.Past.{Past, written_to}
use Rattle.registers.specs.Laws.Registers.{own_places, others_kept}
use Rattle.registers.specs.Laws.Sized.{sized_places}
use Rattle.registers.specs.Laws.Grids.{block_past, on_given}
use Rattle.registers.specs.declared.MatrixType.{MatrixType}
use Rattle.registers.specs.declared.Registers.{Registers}

module _ (ts : List MatrixType) (es : List ℕ) (p : length ts ≡ register_count) (q : length es ≡ element_places) (w : Past ts es) where
  -- a register given a type, and places that are 0 past it
  past_written : (r : ℕ) (t : MatrixType) (g : ℕ → ℕ) → ((e : ℕ) → t.rows * t.columns ≤ e → e < matrix_places → g e ≡ 0)
      → Past (with_type ts r t) (line es (place_of r 0) g matrix_places)
  past_written r t g z =
      record {
        at =
            λ k m e l n.
            by_place k r
            (λ s.
            let u : t.rows * t.columns ≤ e = rw (s, get_or-set_same ts r t no_type (omega arith)) at l in
            rw s (own_places es r g e (omega arith) n ∙ z e u n))
            (λ d.
            let u : (the_type ts k).rows * (the_type ts k).columns ≤ e = rw (get_or-set_other ts r k t no_type d) at l in
            others_kept es r g k e d n ∙ w.at k m e u n);
      }

  -- a register made a matrix
  pub past_made : (r : ℕ) (t : MatrixType) (f : ℕ → ℕ → ℕ) → SizedType t → Past (with_type ts r t) (with_block es r (block t.rows t.columns f))
  past_made r t f s =
      past_written r t (λ (e : ℕ). get_or (block t.rows t.columns f) e 0) (block_past t.rows t.columns f (sized_places t s))

  -- a register made equal to another
  pub past_copied : (r s : ℕ) → s < register_count → Past (with_type ts r (the_type ts s)) (copied_elements es r s)
  past_copied r s m = past_written r (the_type ts s) (element_of es s) (w.at s m)

-- an element of a register's matrix put
pub past_put : (ts : List MatrixType) (es : List ℕ) (r e x : ℕ) → Sized ts → e < (the_type ts r).rows * (the_type ts r).columns → Past ts es
    → Past ts (with_element_of es r e x)
past_put ts es r e x z l w =
    record {
      at =
          λ k m i n o.
          get_or-set_other es (place_of r e) (place_of k i) x 0
          (λ d.
          let few : e < matrix_places = omega (arith, sized_places (the_type ts r) (z.each r)) in
          let c : k ≡ r = omega arith in
          let u : (the_type ts r).rows * (the_type ts r).columns ≤ i = rw c at n in
          absurd (omega arith))
          ∙ w.at k m i n o;
    }

-- elements of a register's matrix filled
past_filled : (ts : List MatrixType) (es : List ℕ) (r n x : ℕ) → Sized ts → n ≤ (the_type ts r).rows * (the_type ts r).columns → Past ts es
    → Past ts (filled_elements es r 0 n x)
unfolding line
past_filled ts es r zero x z l w = w
past_filled ts es r (suc n) x z l w =
    let e : place_of r 0 + n ≡ place_of r n = omega arith in
    rw e (past_put ts (filled_elements es r 0 n x) r n x z (omega arith) (past_filled ts es r n x z (omega arith) w))

-- a register made zeros
pub past_zeroed : (g : Registers) (r : ℕ) → Sized g.types → Past g.types g.elements → Past g.types (zeroed g r).elements
past_zeroed g r z w =
    let t = the_type g.types r in
    past_filled g.types g.elements r (t.rows * t.columns) 0 z (omega arith) w

-- the places of empty registers are 0
pub past_empty : Past empty_registers.types empty_registers.elements
unfolding empty_registers
past_empty = record { at = λ r l e m n. none_all (λ (x : ℕ). x ≡ 0) element_places 0 0 refl refl (place_of r e) }

-- what is written over a matrix that ends at `old`, cleared up to there, and 0 from its own end on, is written whole
module _ (es : List ℕ) (r n old : ℕ) (g h : ℕ → ℕ) (room : place_of r 0 + matrix_places ≤ length es) (few : n ≤ matrix_places) (was : old ≤ matrix_places)
    (clear : (e : ℕ) → old ≤ e → e < matrix_places → element_of es r e ≡ 0) (same : (e : ℕ) → e < n → g e ≡ h e)
    (past : (e : ℕ) → n ≤ e → e < matrix_places → h e ≡ 0) where
  abbrev first : List ℕ
  first = line es (place_of r 0) g n

  first_length : length first ≡ length es
  first_length = length_line es (place_of r 0) g n

  -- a place of the register
  place_same : (e : ℕ) → e < matrix_places → get_or (written_to es r g n old) (place_of r 0 + e) 0 ≡ h e
  place_same e l =
      by_order e n
      (λ m.
      line_outside first (place_of r n) (λ (i : ℕ). 0) (old - n) (place_of r 0 + e) 0 (λ i k d. omega arith)
      ∙ line_inside es (place_of r 0) g n e 0 m (omega arith)
      ∙ same e m)
      (λ m.
      by_order e old
      (λ k.
      let at : place_of r 0 + e ≡ place_of r n + (e - n) = omega arith in
      let fits : place_of r n + (old - n) ≤ length first = omega (arith, first_length) in
      rw at (line_inside first (place_of r n) (λ (i : ℕ). 0) (old - n) (e - n) 0 (omega arith) fits) ∙ sym (past e m l))
      (λ k.
      let at : place_of r 0 + e ≡ place_of r e = omega arith in
      line_outside first (place_of r n) (λ (i : ℕ). 0) (old - n) (place_of r 0 + e) 0 (λ i j d. omega arith)
      ∙ line_outside es (place_of r 0) g n (place_of r 0 + e) 0 (λ i j d. omega arith)
      ∙ rw at (clear e k l)
      ∙ sym (past e m l)))

  -- a place of another
  place_other : (k : ℕ) → ((e : ℕ) → e < matrix_places → k ≡ place_of r 0 + e → ⊥) → get_or (written_to es r g n old) k 0 ≡ get_or es k 0
  place_other k d =
      line_outside first (place_of r n) (λ (i : ℕ). 0) (old - n) k 0 (λ i j e. d (n + i) (omega arith) (omega arith))
      ∙ line_outside es (place_of r 0) g n k 0 (λ i j e. d i (omega arith) e)

  pub written_whole : written_to es r g n old ≡ line es (place_of r 0) h matrix_places
  written_whole =
      ext_get_or 0 (written_to es r g n old) (line es (place_of r 0) h matrix_places)
      (length_line first (place_of r n) (λ (i : ℕ). 0) (old - n) ∙ first_length ∙ sym (length_line es (place_of r 0) h matrix_places))
      (λ k l.
      by_order k (place_of r 0)
      (λ m. place_other k (λ e i d. omega arith) ∙ sym (line_outside es (place_of r 0) h matrix_places k 0 (λ i j d. omega arith)))
      (λ m.
      by_order k (place_of r 0 + matrix_places)
      (λ o.
      let at : k ≡ place_of r 0 + (k - place_of r 0) = omega arith in
      let in_place : k - place_of r 0 < matrix_places = omega arith in
      rw at
      (place_same (k - place_of r 0) in_place ∙ sym (line_inside es (place_of r 0) h matrix_places (k - place_of r 0) 0 in_place room)))
      (λ o. place_other k (λ e i d. omega arith) ∙ sym (line_outside es (place_of r 0) h matrix_places k 0 (λ i j d. omega arith)))))

-- so a matrix's own elements are enough
module _ (ts : List MatrixType) (es : List ℕ) (z : Sized ts) (q : length es ≡ element_places) (w : Past ts es) (r : ℕ) (m : r < register_count) where
  abbrev old : ℕ
  old = (the_type ts r).rows * (the_type ts r).columns

  pub block_written : (d : List ℕ) (rows columns : ℕ) (f : ℕ → ℕ → ℕ) → length d ≡ matrix_places → rows * columns ≤ matrix_places
      → written_to es r (λ (e : ℕ). get_or (block_on d rows columns f) e 0) (rows * columns) old ≡ with_block es r (block rows columns f)
  block_written d rows columns f u few =
      written_whole es r (rows * columns) old (λ (e : ℕ). get_or (block_on d rows columns f) e 0) (λ (e : ℕ). get_or (block rows columns f) e 0) (omega arith) few
      (sized_places (the_type ts r) (z.each r)) (w.at r m) (on_given rows columns f few d u) (block_past rows columns f few)

  pub copy_written : (s : ℕ) → s < register_count → written_to es r (element_of es s) ((the_type ts s).rows * (the_type ts s).columns) old ≡ copied_elements es r s
  copy_written s k =
      written_whole es r ((the_type ts s).rows * (the_type ts s).columns) old (element_of es s) (element_of es s) (omega arith) (sized_places (the_type ts s) (z.each s))
      (sized_places (the_type ts r) (z.each r)) (w.at r m) (λ e l. refl) (w.at s k)
