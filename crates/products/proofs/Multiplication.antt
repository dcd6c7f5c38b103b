-- Sums of products of residues are the elements of a multiply-add.
use mathlib.Core.Path.{◌≡◌, refl, ap, ap₂, ◌∙◌}
use mathlib.Core.List.{List}
use mathlib.Core.Bool.{true}
use Prim.Native.Nat.{ℕ, zero, suc, ◌+◌, ◌*◌, ◌%◌, ◌^◌, ◌<◌, ◌≤◌}
use native.Mathlib.Nat.{add_comm, zero-add}
use native.Mathlib.Omega.{arith}
use lib.IntN.{ℤ, ◌*ℤ◌}
use lib.ListN.{length, get_or}
use Rattle.numbers.specs.Lists.{line}
use Rattle.numbers.specs.Laws.Lines.{line_inside, line_same}
use Rattle.numbers.specs.Remainders.{remainder}
use Rattle.kinds.specs.Laws.Modulo.{dot_more, sum_more}
use Rattle.kinds.specs.Sums.{sum_z}
use Rattle.kinds.specs.Values.{value}
use Rattle.sheet.specs.Sizes.{side_places, matrix_places}
use Rattle.registers.specs.Registers.{place_of}
use Rattle.registers.specs.Sized.{SizedType}
use Rattle.registers.specs.Laws.Sized.{sized_places}
use Rattle.registers.specs.Laws.Grids.{row_end}
use Rattle.registers.specs.declared.MatrixType.{MatrixType}
use Rattle.products.specs.Laws.Shapes.{inner_agree, columns_agree}
use Rattle.products.specs.Multiplying.{value_at, product_at, multiplied}
use Rattle.products.specs.Shapes.{multiply_agrees}
use Rattle.products.specs.Residues.{residue_at, residues_on, dot_of, dot_plus}

-- equal factors give equal sums
dot_same : (x z y : ℕ → ℕ) (n : ℕ) → ((t : ℕ) → t < n → x t ≡ z t) → dot_of x y n ≡ dot_of z y n
unfolding dot_of
dot_same x z y zero e = refl
dot_same x z y (suc n) e = ap₂ (λ (s a : ℕ). (s + a * y n) % 2 ^ 32) (dot_same x z y n (λ t l. e t (omega arith))) (e n (omega arith))

-- element (i, j) of a matrix of a kind from place `first` on, of so many inner columns, times y, of n columns, plus one of a kind from `base` on
abbrev pub placed_plus : List ℕ → ℕ → ℕ → ℕ → ℕ → ℕ → ℕ → List ℕ → ℕ → ℕ → ℕ
placed_plus es kind added first base inner n y i j =
    (dot_of (λ (t : ℕ). remainder (value kind (get_or es (first + i * inner + t) 0)) (2 ^ 32)) (λ (t : ℕ). get_or y (j + t * n) 0) inner
    + remainder (value added (get_or es (base + i * n + j) 0)) (2 ^ 32))
    % 2 ^ 32

-- it is what a row's values give
pub row_plus : (es : List ℕ) (kind added first base inner n : ℕ) (y : List ℕ) (i j : ℕ) (d x : List ℕ) → length d ≡ side_places → inner ≤ side_places
    → x ≡ line d 0 (λ (t : ℕ). remainder (value kind (get_or es (first + i * inner + t) 0)) (2 ^ 32)) inner
    → (dot_of (λ (t : ℕ). get_or x t 0) (λ (t : ℕ). get_or y (j + t * n) 0) inner + remainder (value added (get_or es (base + i * n + j) 0)) (2 ^ 32)) % 2 ^ 32
    ≡ placed_plus es kind added first base inner n y i j
row_plus es kind added first base inner n y i j d x q m e =
    ap (λ (s : ℕ). (s + remainder (value added (get_or es (base + i * n + j) 0)) (2 ^ 32)) % 2 ^ 32)
    (dot_same (λ (t : ℕ). get_or x t 0) (λ (t : ℕ). remainder (value kind (get_or es (first + i * inner + t) 0)) (2 ^ 32)) (λ (t : ℕ). get_or y (j + t * n) 0) inner
    (λ t l.
    let room : 0 + inner ≤ length d = omega arith in
    ap (λ (u : List ℕ). get_or u t 0) e
    ∙ rw zero-add at (line_inside d 0 (λ (t : ℕ). remainder (value kind (get_or es (first + i * inner + t) 0)) (2 ^ 32)) inner t 0 l room)))

-- and what registers give, whose elements stand there
pub plus_same : (es : List ℕ) (a : ℕ) (ta : MatrixType) (y : List ℕ) (c : ℕ) (tc : MatrixType) (i j first base : ℕ) → first ≡ place_of a 0 → base ≡ place_of c 0
    → placed_plus es ta.kind tc.kind first base ta.columns tc.columns y i j ≡ dot_plus es a ta y c tc i j
plus_same es a ta y c tc i j first base f g =
    let own : base + i * tc.columns + j ≡ place_of c (i * tc.columns + j) = omega arith in
    ap₂ (λ (s z : ℕ). (s + z) % 2 ^ 32)
    (dot_same (λ (t : ℕ). remainder (value ta.kind (get_or es (first + i * ta.columns + t) 0)) (2 ^ 32)) (λ (t : ℕ). residue_at es a ta (i * ta.columns + t))
    (λ (t : ℕ). get_or y (j + t * tc.columns) 0) ta.columns
    (λ t l.
    let at : first + i * ta.columns + t ≡ place_of a (i * ta.columns + t) = omega arith in
    ap (λ (k : ℕ). remainder (value ta.kind (get_or es k 0)) (2 ^ 32)) at))
    (ap (λ (k : ℕ). remainder (value tc.kind (get_or es k 0)) (2 ^ 32)) own)

-- what the code lists of a matrix
pub residues_listed : (d es : List ℕ) (s : ℕ) (t : MatrixType) {first count : ℕ} → first ≡ place_of s 0 → count ≡ t.rows * t.columns
    → line d 0 (λ (e : ℕ). remainder (value t.kind (get_or es (first + e) 0)) (2 ^ 32)) count ≡ residues_on d es s t
unfolding residues_on
residues_listed d es s t {first} f g =
    rw g
    (line_same d 0 (λ (e : ℕ). remainder (value t.kind (get_or es (first + e) 0)) (2 ^ 32)) (residue_at es s t) (t.rows * t.columns)
    (λ e l.
    let at : first + e ≡ place_of s e = omega arith in
    ap (λ (k : ℕ). remainder (value t.kind (get_or es k 0)) (2 ^ 32)) at))

residues_at : (d es : List ℕ) (s : ℕ) (t : MatrixType) → length d ≡ matrix_places → SizedType t → (e : ℕ) → e < t.rows * t.columns
    → get_or (residues_on d es s t) e 0 ≡ residue_at es s t e
unfolding residues_on
residues_at d es s t q z e l =
    let room : 0 + t.rows * t.columns ≤ length d = omega (arith, sized_places t z) in
    rw zero-add at (line_inside d 0 (residue_at es s t) (t.rows * t.columns) e 0 l room)

-- sums of products of residues are residues of the sum of products
dot_sum : (x y : ℕ → ℕ) (a b : ℕ → ℤ) (count : ℕ) → ((t : ℕ) → t < count → x t ≡ remainder (a t) (2 ^ 32))
    → ((t : ℕ) → t < count → y t ≡ remainder (b t) (2 ^ 32)) → dot_of x y count ≡ remainder (sum_z (λ (t : ℕ). a t *ℤ b t) count) (2 ^ 32)
unfolding dot_of sum_z
dot_sum x y a b zero f g = refl
dot_sum x y a b (suc t) f g =
    dot_more (2 ^ 32) (omega arith) (dot_of x y t) (x t) (y t) (sum_z (λ (k : ℕ). a k *ℤ b k) t) (a t) (b t)
    (dot_sum x y a b t (λ k l. f k (omega arith)) (λ k l. g k (omega arith))) (f t (omega arith)) (g t (omega arith))

-- what the code computes from residues is the element of a multiply-add
pub multiplied_at : (d es : List ℕ) (a : ℕ) (ta : MatrixType) (b : ℕ) (tb : MatrixType) (c : ℕ) (tc : MatrixType) → length d ≡ matrix_places → SizedType tb
    → multiply_agrees ta tb tc ≡ true → (i j : ℕ) → i < tc.rows → j < tc.columns
    → dot_plus es a ta (residues_on d es b tb) c tc i j ≡ multiplied es a ta b tb c tc i j
unfolding multiplied
multiplied_at d es a ta b tb c tc z sb e i j l h =
    sum_more (2 ^ 32) (omega arith) _ _ (product_at es a ta b tb i j) (value_at es c tc i j)
    (dot_sum (λ (t : ℕ). residue_at es a ta (i * ta.columns + t)) (λ (t : ℕ). get_or (residues_on d es b tb) (j + t * tc.columns) 0)
    (λ (t : ℕ). value_at es a ta i t) (λ (t : ℕ). value_at es b tb t j) ta.columns (λ t k. refl) (λ t k. column t k))
    refl
  where
    column : (t : ℕ) → t < ta.columns → get_or (residues_on d es b tb) (j + t * tc.columns) 0 ≡ remainder (value_at es b tb t j) (2 ^ 32)
    column t k =
        let n : tb.columns ≡ tc.columns = columns_agree ta tb tc e in
        let q : j + t * tc.columns ≡ t * tb.columns + j = rw n (add_comm j (t * tc.columns)) in
        ap (λ (p : ℕ). get_or (residues_on d es b tb) p 0) q
        ∙ residues_at d es b tb z sb (t * tb.columns + j) (row_end t tb.rows tb.columns j (omega (arith, inner_agree ta tb tc e)) (omega arith))
