-- An element takes at most one division for each dimension, and a sheet within Sizes has few elements.
use Prim.Native.Nat.{ℕ, zero, suc, ◌+◌, ◌*◌, ◌^◌, ◌≤◌, min}
use Rattle.std.specs.Prelude.{◌≡◌, List, [], ◌∷◌, ◌++◌, leb, length}
use Rattle.std.proofs.Common.{ap, ◌∙◌, zero-mul, arith, length-append}
use Rattle.std.proofs.Math.Nat.{min-le_right}
use Rattle.numbers.specs.Lists.{each}
use Rattle.numbers.specs.Laws.Choice.{pick_case}
use Rattle.sheet.specs.Sizes.{rank_places, step_places, matrix_places}
use Rattle.sheet.specs.declared.Layout.{Layout}
use Rattle.sheet.specs.declared.Tensors.{Tensors}
use Rattle.sheet.specs.declared.Sheet.{Sheet}
use Rattle.sheet.specs.declared.Step.{Step}
use Rattle.sheet.specs.declared.Step.TheVariants.{Nothing, Load, Store, Whole}
use Rattle.sheet_ranges.specs.Steps.{the_step}
use Rattle.sheet_ranges.specs.Laws.Within.{Within}
use Rattle.registers.specs.declared.MatrixType.{MatrixType}
use Rattle.view_indices.specs.Indices.{span_of}
use Rattle.spans.specs.Spans.{split_by, with_split, divided_from, nothing_divided, divided}
use Rattle.spans.specs.Laws.Splits.{split_most}
use Rattle.spans.specs.declared.Divided.{Divided}
use Rattle.addressing.specs.Rules.{elements_of}
use Rattle.addressing.specs.declared.Access.{Access}
use Rattle.addressing.specs.declared.Indexed.{Indexed}
use Rattle.addressing.specs.declared.Indexed.TheVariants.{Skipped, Index}
use Rattle.accepted.specs.Passes.{pass_from}
use Rattle.accepted.specs.Elements.{of_access, of_step}
use Rattle.accepted.specs.Laws.Elements.{access_count, sheet_few}
use Rattle.dividing.specs.Divisions.{index_divisions, element_divisions, access_divisions, step_divisions, divisions_at, divisions, total}
use Rattle.dividing.specs.Laws.Totals.{total_append}

from_most : (span : ℕ → ℕ) (n index : ℕ) (r : Divided) → (divided_from span n index r).divisions ≤ r.divisions + n
unfolding divided_from
from_most span zero index r = omega arith
from_most span (suc n) index r =
    let s = split_by (span n) index in
    omega (arith, from_most span n s.quotient (with_split r n s), split_most (span n) index)

pub divided_most : (l : Layout) (index : ℕ) → (divided l index).divisions ≤ rank_places
unfolding divided
divided_most l index =
    omega (arith, from_most (span_of l) (min l.rank rank_places) index nothing_divided, min-le_right l.rank rank_places)

index_most : (l : Layout) (x : Indexed) → index_divisions l x ≤ rank_places
unfolding index_divisions
index_most l Skipped = omega arith
index_most l (Index i) = pick_case (λ (n : ℕ). n ≤ rank_places) (leb (2 ^ 32) i) _ _ (λ t. omega arith) (λ t. divided_most l i)

-- at most five for each element
abbrev pub Most : List ℕ → Type 0
Most ns = total ns ≤ rank_places * length ns

most_none : Most []
unfolding total
most_none = omega arith

most_append : (ms ns : List ℕ) → Most ms → Most ns → Most (ms ++ ns)
most_append ms ns p q = omega (arith, p, q, total_append ms ns, length-append ms ns)

most_each : (f : ℕ → ℕ) → ((k : ℕ) → f k ≤ rank_places) → (n : ℕ) → Most (each n (λ (k : ℕ). f k ∷ []))
unfolding each total
most_each f h zero = omega arith
most_each f h (suc n) = most_append (each n (λ (k : ℕ). f k ∷ [])) (f n ∷ []) (most_each f h n) (omega (arith, h n))

access_most : (a : Access) → Most (access_divisions a)
unfolding of_access
access_most a = most_each (element_divisions a) (λ e. index_most a.layout _) (elements_of a)

-- an access without rows takes none
pub bare_none : (a : Access) → a.rows ≡ 0 → total (access_divisions a) ≡ 0
bare_none a e =
    let none : elements_of a ≡ 0 = ap (λ (r : ℕ). r * a.columns) e ∙ zero-mul a.columns in
    omega (arith, access_most a, access_count element_divisions a, none)

step_most : (tensors : Tensors) (ts : List MatrixType) (len k : ℕ) (step : Step) → Most (step_divisions tensors ts len k step)
unfolding of_step
step_most tensors ts len k Nothing = most_none
step_most tensors ts len k (Load register object window) = access_most _
step_most tensors ts len k (Store register window) = access_most _
step_most tensors ts len k (Whole whole) = most_none

module _ (sh : Sheet) (len : ℕ) where
  pub steps_most : (n k : ℕ) (ts : List MatrixType) → Most (pass_from (divisions_at sh len) n sh len k ts)
  unfolding pass_from
  steps_most zero k ts = most_none
  steps_most (suc n) k ts = most_append _ _ (step_most sh.tensors ts len k (the_step sh.step k)) (steps_most n (k + 1) _)

-- a sheet within Sizes has few elements
pub divisions_few : (sh : Sheet) → Within sh → (len : ℕ) → length (divisions sh len) ≤ step_places * matrix_places
unfolding divisions
divisions_few sh w len = sheet_few (λ (n : ℕ). element_divisions) sh w len
