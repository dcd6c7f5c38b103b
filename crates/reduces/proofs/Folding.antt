-- The folds that the code computes are the elements of a reduce.
use mathlib.Core.Path.{◌≡◌, ap, ap₂, ◌∙◌}
use mathlib.Core.List.{List}
use Prim.Native.Nat.{ℕ, ◌+◌, ◌*◌, ◌/◌, ◌%◌, ◌<◌, ◌≤◌}
use native.Mathlib.Nat.{add-mul, mul_assoc}
use native.Mathlib.Omega.{arith}
use lib.ListN.{get_or}
use Rattle.numbers.specs.Laws.Places.{places_given}
use Rattle.sheet.specs.Sizes.{side_places}
use Rattle.sheet.specs.declared.ReduceMode.{ReduceMode}
use Rattle.sheet.specs.declared.ReduceMode.TheVariants.{TwoByTwo}
use Rattle.sheet.specs.declared.Combine.{Combine}
use Rattle.registers.specs.Registers.{place_of}
use Rattle.registers.specs.declared.MatrixType.{MatrixType}
use Rattle.combines.specs.Combining.{folded}
use Rattle.combines.specs.Laws.Combining.{folded_same}
use Rattle.reduces.specs.Reducing.{part_at, later_of, reduced}
use Rattle.reduces.specs.Parts.{fold_at, no_folds, folds, quad}

folds_at : (es : List ℕ) (kind : ℕ) (op : Combine) (first apart step later count k : ℕ) → k < count → count ≤ side_places
    → get_or (folds es kind op first apart step later count) k 0 ≡ fold_at es kind op step later (first + k * apart)
unfolding folds no_folds
folds_at es kind op first apart step later count k l h =
    places_given side_places 0 0 (λ (p : ℕ). fold_at es kind op step later (first + p * apart)) count h k l

module _ (es : List ℕ) (s : ℕ) (t : MatrixType) (mode : ReduceMode) (op : Combine) (i j : ℕ) where
  -- a fold over the places of a part is the element of the reduce
  pub fold_part : (first step later : ℕ) → later ≡ later_of mode t.rows t.columns
      → ((u : ℕ) → first + u * step ≡ place_of s (part_at mode t.columns i j u)) → fold_at es t.kind op step later first ≡ reduced es s t mode op i j
  unfolding reduced
  fold_part first step later e h =
      folded_same t.kind op (λ (u : ℕ). get_or es (first + u * step) 0) (λ (u : ℕ). get_or es (place_of s (part_at mode t.columns i j u)) 0) later
      (λ u l. ap (λ (k : ℕ). get_or es k 0) (h u))
      ∙ ap (λ (n : ℕ). folded t.kind op (λ (u : ℕ). get_or es (place_of s (part_at mode t.columns i j u)) 0) n) e

  -- and so is the one among many that stands at its part's place
  pub part_at_lem : (first apart step later count k at : ℕ) {values : List ℕ} → values ≡ folds es t.kind op first apart step later count
      → at ≡ k → k < count → count ≤ side_places → later ≡ later_of mode t.rows t.columns
      → ((u : ℕ) → first + k * apart + u * step ≡ place_of s (part_at mode t.columns i j u)) → get_or values at 0 ≡ reduced es s t mode op i j
  part_at_lem first apart step later count k at e p l h f g =
      ap₂ (λ (v : List ℕ) (q : ℕ). get_or v q 0) e p
      ∙ folds_at es t.kind op first apart step later count k l h
      ∙ fold_part (first + k * apart) step later f g

-- the four elements of a 2 by 2 block
pub quad_part : (es : List ℕ) (s : ℕ) (t : MatrixType) (op : Combine) (i j base : ℕ) → base ≡ place_of s 0
    → quad es t.kind op t.columns (base + 2 * (i * t.columns) + 2 * j) ≡ reduced es s t TwoByTwo op i j
unfolding reduced
quad_part es s t op i j base e =
    folded_same t.kind op _ _ 3 (λ u l.
    let n = t.columns in
    let p : (2 * i + u / 2) * n ≡ 2 * (i * n) + u / 2 * n = add-mul (2 * i) (u / 2) n ∙ ap (λ (k : ℕ). k + u / 2 * n) (mul_assoc 2 i n) in
    let q : base + 2 * (i * n) + 2 * j + u / 2 * n + u % 2 ≡ place_of s ((2 * i + u / 2) * n + (2 * j + u % 2)) = omega arith in
    ap (λ (k : ℕ). get_or es k 0) q)
