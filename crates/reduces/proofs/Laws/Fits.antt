-- An element of a reduce that is not refused is combined from elements of the source, so it fits where they do.
use Rattle.std.specs.Prelude.{◌≡◌, true, List, ℕ, ◌+◌, ◌*◌, ◌/◌, ◌%◌, ◌^◌, ◌<◌, ◌≤◌}
use Rattle.std.proofs.Common.{mul-le-mul, arith, eqb-true}
use Rattle.numbers.specs.Laws.Choice.{both_left, both_right}
use Rattle.kinds.specs.Widths.{width}
use Rattle.sheet.specs.declared.ReduceMode.{ReduceMode}
use Rattle.sheet.specs.declared.ReduceMode.TheVariants.{Row, Column, Both, TwoByTwo}
use Rattle.sheet.specs.declared.Combine.{Combine}
use Rattle.registers.specs.Registers.{element_of}
use Rattle.registers.specs.Sized.{SizedType}
use Rattle.registers.specs.Fits.{FitMatrix}
use Rattle.registers.specs.Laws.Grids.{row_end}
use Rattle.registers.specs.declared.MatrixType.{MatrixType}
use Rattle.combines.specs.Laws.Combining.{folded_fits}
use Rattle.reduces.specs.Shapes.{reduce_agrees, reduce_refusal}
use Rattle.reduces.specs.Reducing.{part_at, later_of, reduced}
use Rattle.reduces.proofs.Laws.Shapes.{some_rows, reduce_agreed}

module _ (t : MatrixType) (rows columns : ℕ) (s : SizedType t) (some : 0 < t.rows) (i j : ℕ) (h : i < rows) (l : j < columns) where
  -- the elements that are combined are the source's
  part_inside : (mode : ReduceMode) → reduce_agrees t rows columns mode ≡ true → (k : ℕ) → k ≤ later_of mode t.rows t.columns
      → part_at mode t.columns i j k < t.rows * t.columns
  part_inside Row e k m = row_end i t.rows t.columns k (omega (arith, eqb-true rows t.rows e)) (omega (arith, s.some some))
  part_inside Column e k m = row_end k t.rows t.columns j (omega arith) (omega (arith, eqb-true columns t.columns e))
  part_inside Both e k m =
      let least : 1 * 1 ≤ t.rows * t.columns = mul-le-mul {n₁ = 1} {m₁ = 1} some (s.some some) in
      omega arith
  part_inside TwoByTwo e k m =
      let m2 : t.rows ≡ 2 * rows = eqb-true _ _ (both_left _ _ e) in
      let n2 : t.columns ≡ 2 * columns = eqb-true _ _ (both_right _ _ e) in
      row_end (2 * i + k / 2) t.rows t.columns (2 * j + k % 2) (omega arith) (omega arith)

pub reduced_fits : (es : List ℕ) (source : ℕ) (t : MatrixType) (rows columns : ℕ) (mode : ReduceMode) (op : Combine) → SizedType t
    → reduce_refusal t rows columns mode ≡ 0 → FitMatrix t (element_of es source) → (i j : ℕ) → i < rows → j < columns
    → reduced es source t mode op i j < 2 ^ width t.kind
unfolding reduced
reduced_fits es source t rows columns mode op s e f i j h l =
    folded_fits t.kind op (λ (k : ℕ). element_of es source (part_at mode t.columns i j k)) (later_of mode t.rows t.columns)
    (λ k m. f.inside _ (part_inside t rows columns s (some_rows t rows columns mode e) i j h l mode (reduce_agreed t rows columns mode e) k m))
