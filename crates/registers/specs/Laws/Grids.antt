-- Laws of grids: where an element of a matrix stands, and blocks written row by row.
use Rattle.std.specs.Prelude.{◌≡◌, refl, List, ℕ, zero, suc, ◌+◌, ◌*◌, ◌/◌, ◌%◌, ◌<◌, ◌≤◌, get_or}
use Rattle.std.proofs.Math.Path.{sym}
use Rattle.std.proofs.Common.{ap, ap₂, ◌∙◌, mul-le-mul_right, suc-mul, mod-eq_of_lt, mod-lt, add-zero, zero-mul, mul-zero, div-lt_iff_lt-mul, not-suc-le-zero, add-one}
use Rattle.std.proofs.Math.Nat.{mul-add-div_right, mul-add-mod_self_right, div-eq_of_lt, zero-add}
use native.Mathlib.Omega.{arith}
use Rattle.std.proofs.Math.ListN.{length}
use Rattle.numbers.specs.Lists.{line}
use Rattle.numbers.specs.Laws.Lists.{line_none, length_line}
use Rattle.numbers.specs.Laws.Lines.{line_inside, line_same, line_joined}
use Rattle.numbers.specs.Laws.Places.{places_given, places_past}
use Rattle.sheet.specs.Sizes.{side_places, matrix_places}
use Rattle.registers.specs.Laws.Sized.{sides}
use Rattle.registers.specs.Grids.{numbered, blank, block, block_on}

-- the elements of a row stand before the next row's start
pub row_end : (i m n j : ℕ) → i < m → j < n → i * n + j < m * n
row_end i m n j l h = let e : suc i * n ≤ m * n = mul-le-mul_right n l in omega (arith, suc-mul i n)

-- a row ends within the places of a matrix
pub row_fits : (i n : ℕ) → i < side_places → n ≤ side_places → i * n + n ≤ matrix_places
row_fits i n p q = let h : suc i * n ≤ matrix_places = sides (suc i) n p q in omega (arith, suc-mul i n)

-- element (i, j) has number i * columns + j
pub number_at : (columns : ℕ) (f : ℕ → ℕ → ℕ) (i j : ℕ) → j < columns → numbered columns f (i * columns + j) ≡ f i j
number_at columns f i j h =
    let some : 0 < columns = omega arith in
    let d : (i * columns + j) / columns ≡ i = mul-add-div_right some i j ∙ ap (λ (k : ℕ). i + k) (div-eq_of_lt h) ∙ add-zero i in
    let r : (i * columns + j) % columns ≡ j = mul-add-mod_self_right i columns j ∙ mod-eq_of_lt h in
    ap₂ f d r

-- a number of the matrix is that of a row and a column
pub number_row : (rows columns e : ℕ) → e < rows * columns → e / columns < rows
number_row rows zero e h = absurd (not-suc-le-zero (rw (mul-zero rows) at h))
number_row rows (suc n) e h = (div-lt_iff_lt-mul {k = suc n} {x = e} {y = rows} (omega arith)).1 h

pub number_column : (rows columns e : ℕ) → e < rows * columns → e % columns < columns
number_column rows zero e h = absurd (not-suc-le-zero (rw (mul-zero rows) at h))
number_column rows (suc n) e h = mod-lt e (omega arith)

-- blocks of equal elements are equal
pub block_same : (d : List ℕ) (rows columns : ℕ) (f h : ℕ → ℕ → ℕ) → ((i j : ℕ) → i < rows → j < columns → f i j ≡ h i j)
    → block_on d rows columns f ≡ block_on d rows columns h
unfolding block_on
block_same d rows columns f h e =
    line_same d 0 (numbered columns f) (numbered columns h) (rows * columns)
    (λ k l. e (k / columns) (k % columns) (number_row rows columns k l) (number_column rows columns k l))

-- a block of one column
pub column_block : (d : List ℕ) (rows : ℕ) (g : ℕ → ℕ) → line d 0 g rows ≡ block_on d rows 1 (λ (i j : ℕ). g i)
unfolding block_on
column_block d rows g =
    let e : rows ≡ rows * 1 = omega arith in
    line_same d 0 g (numbered 1 (λ (i j : ℕ). g i)) rows (λ k l. let q : k ≡ k / 1 = omega arith in ap g q)
    ∙ ap (λ (n : ℕ). line d 0 (numbered 1 (λ (i j : ℕ). g i)) n) e

-- the first i rows of a block
unfoldable pub rows_of : List ℕ → ℕ → (ℕ → ℕ → ℕ) → ℕ → List ℕ
rows_of d columns f i = line d 0 (numbered columns f) (i * columns)

pub rows_none : (d : List ℕ) (columns : ℕ) (f : ℕ → ℕ → ℕ) → d ≡ rows_of d columns f 0
unfolding rows_of
rows_none d columns f = rw (zero-mul columns) (sym (line_none d 0 (numbered columns f)))

pub rows_all : (d : List ℕ) (rows columns : ℕ) (f : ℕ → ℕ → ℕ) → rows_of d columns f rows ≡ block_on d rows columns f
unfolding rows_of block_on
rows_all d rows columns f = refl

-- one more row
pub rows_more : (d₀ : List ℕ) (columns : ℕ) (f : ℕ → ℕ → ℕ) (i : ℕ) (g : ℕ → ℕ) {d out : List ℕ} → d ≡ rows_of d₀ columns f i → out ≡ line d (i * columns) g columns
    → ((j : ℕ) → j < columns → g j ≡ f i j) → out ≡ rows_of d₀ columns f (i + 1)
unfolding rows_of
rows_more d₀ columns f i g e o h =
    let n : i * columns + columns ≡ (i + 1) * columns = rw add-one (sym (suc-mul i columns)) in
    o
    ∙ ap (λ (l : List ℕ). line l (i * columns) g columns) e
    ∙ line_same _ (i * columns) g (λ (j : ℕ). numbered columns f (i * columns + j)) columns (λ j l. h j l ∙ sym (number_at columns f i j l))
    ∙ ap (λ (p : ℕ). line (line d₀ 0 (numbered columns f) (i * columns)) p (λ (j : ℕ). numbered columns f (i * columns + j)) columns) (sym (zero-add (i * columns)))
    ∙ line_joined d₀ 0 (numbered columns f) (i * columns) columns
    ∙ ap (λ (k : ℕ). line d₀ 0 (numbered columns f) k) n

-- a block has its elements, and 0 past them; on another list of as many places it has the same elements
module _ (rows columns : ℕ) (f : ℕ → ℕ → ℕ) (h : rows * columns ≤ matrix_places) where
  pub block_given : (e : ℕ) → e < rows * columns → get_or (block rows columns f) e 0 ≡ numbered columns f e
  unfolding block blank
  block_given e l = places_given matrix_places 0 0 (numbered columns f) (rows * columns) h e l

  pub block_past : (e : ℕ) → rows * columns ≤ e → e < matrix_places → get_or (block rows columns f) e 0 ≡ 0
  unfolding block blank
  block_past e l m = places_past matrix_places 0 0 (numbered columns f) (rows * columns) h e l m

  pub on_given : (d : List ℕ) → length d ≡ matrix_places → (e : ℕ) → e < rows * columns → get_or (block_on d rows columns f) e 0 ≡ get_or (block rows columns f) e 0
  unfolding block_on
  on_given d q e l =
      let fits : 0 + rows * columns ≤ length d = omega arith in
      rw zero-add at (line_inside d 0 (numbered columns f) (rows * columns) e 0 l fits) ∙ sym (block_given e l)

pub on_length : (d : List ℕ) (rows columns : ℕ) (f : ℕ → ℕ → ℕ) → length (block_on d rows columns f) ≡ length d
unfolding block_on
on_length d rows columns f = length_line d 0 (numbered columns f) (rows * columns)

-- what is written from the first place on stands there, and 0 past it
module _ (g : ℕ → ℕ) (n : ℕ) (h : n ≤ matrix_places) where
  pub blank_given : (e : ℕ) → e < n → get_or (line blank 0 g n) e 0 ≡ g e
  unfolding blank
  blank_given e l = places_given matrix_places 0 0 g n h e l

  pub blank_past : (e : ℕ) → n ≤ e → e < matrix_places → get_or (line blank 0 g n) e 0 ≡ 0
  unfolding blank
  blank_past e l m = places_past matrix_places 0 0 g n h e l m
