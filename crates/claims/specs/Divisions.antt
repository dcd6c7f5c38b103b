-- T-02's count over a sheet, by its own words.
use Rattle.std.specs.Prelude.{ℕ, ◌/◌, ◌%◌, List}
use Rattle.sheet.specs.declared.Layout.{Layout}
use Rattle.sheet.specs.declared.Sheet.{Sheet}
use Rattle.spans.specs.Needed.{needed_divisions}
use Rattle.addressing.specs.Rules.{indexed}
use Rattle.addressing.specs.declared.Access.{Access}
use Rattle.addressing.specs.declared.Indexed.{Indexed}
use Rattle.addressing.specs.declared.Indexed.TheVariants.{Skipped, Index}
use Rattle.accepted.specs.Elements.{of_sheet}

-- for what rules 1 and 2 give: a skipped element has no index to divide
abbrev pub index_needed : Layout → Indexed → ℕ
index_needed l Skipped = 0
index_needed l (Index i) = needed_divisions l i

-- element e of a load or a store
abbrev pub element_needed : Access → ℕ → ℕ
element_needed a e = index_needed a.layout (indexed a (e / a.columns) (e % a.columns))

-- the elements of a sheet's loads and stores, in order
abbrev pub needed_of : Sheet → ℕ → List ℕ
needed_of sh len = of_sheet (λ (n : ℕ). element_needed) sh len
