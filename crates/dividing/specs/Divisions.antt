-- T-02: the divisions that rule 3 takes for the elements of a sheet's loads and stores.
use Rattle.std.specs.Prelude.{ℕ, ◌+◌, ◌/◌, ◌%◌, ◌^◌, List, [], ◌∷◌, leb}
use Rattle.numbers.specs.Choice.{pick}
use Rattle.sheet.specs.declared.Layout.{Layout}
use Rattle.sheet.specs.declared.Tensors.{Tensors}
use Rattle.sheet.specs.declared.Sheet.{Sheet}
use Rattle.sheet.specs.declared.Step.{Step}
use Rattle.registers.specs.declared.MatrixType.{MatrixType}
use Rattle.spans.specs.Spans.{divided}
use Rattle.addressing.specs.Rules.{indexed}
use Rattle.addressing.specs.declared.Access.{Access}
use Rattle.addressing.specs.declared.Indexed.{Indexed}
use Rattle.addressing.specs.declared.Indexed.TheVariants.{Skipped, Index}
use Rattle.accepted.specs.Elements.{of_access, of_step, of_turn, of_sheet}

-- for what rules 1 and 2 give: none for a skipped element, and none for an index that gets 12 before rule 3
unfoldable pub index_divisions : Layout → Indexed → ℕ
index_divisions l Skipped = 0
index_divisions l (Index i) = pick (leb (2 ^ 32) i) 0 (divided l i).divisions

-- element e of a load or a store
abbrev pub element_divisions : Access → ℕ → ℕ
element_divisions a e = index_divisions a.layout (indexed a (e / a.columns) (e % a.columns))

-- those of the elements of a load or a store in order, of a step, whatever its number, and of a sheet's steps in order
abbrev pub access_divisions : Access → List ℕ
access_divisions a = of_access element_divisions a

abbrev pub step_divisions : Tensors → List MatrixType → ℕ → ℕ → Step → List ℕ
step_divisions tensors ts len k step = of_step (λ (n : ℕ). element_divisions) tensors ts len k step

abbrev pub divisions_at : Sheet → ℕ → List MatrixType → ℕ → Step → List ℕ
divisions_at sh len ts k step = of_turn (λ (n : ℕ). element_divisions) sh len ts k step

unfoldable pub divisions : Sheet → ℕ → List ℕ
divisions sh len = of_sheet (λ (n : ℕ). element_divisions) sh len

unfoldable pub total : List ℕ → ℕ
total [] = 0
total (n ∷ ns) = n + total ns
