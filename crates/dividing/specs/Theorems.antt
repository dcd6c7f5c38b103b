-- What the count of a sheet's divisions is.
use Rattle.std.specs.Prelude.{ℕ, ◌*◌, ◌^◌, ◌<◌, ◌≤◌, ◌≡◌, true, List, length}
use Rattle.std.proofs.Math.Path.{refl}
use Rattle.std.proofs.Common.{◌∙◌, arith, eq-eqb, ne_eqb}
use Rattle.numbers.specs.Choice.{pick}
use Rattle.refusals.specs.Refusals.{not_refused}
use Rattle.sheet.specs.Sizes.{rank_places}
use Rattle.sheet.specs.declared.Layout.{Layout}
use Rattle.sheet.specs.declared.Sheet.{Sheet}
use Rattle.tensor_ranges.specs.Layouts.{layout_ok}
use Rattle.sheet_reader.specs.Reading.{read_sheet}
use Rattle.registers.specs.Registers.{empty_registers}
use Rattle.spans.specs.Needed.{needed_divisions}
use Rattle.spans.specs.Theorems.{divided_divisions}
use Rattle.addressing.specs.declared.Indexed.TheVariants.{Skipped, Index}
use Rattle.checking.specs.Checking.{checked_sheet}
use Rattle.dividing.specs.Divisions.{index_divisions, divisions, total}
use Rattle.dividing.specs.Dividing.{divisions_answer, counted}
use Rattle.dividing.specs.Laws.Indices.{small_divisions}
use Rattle.dividing.specs.Laws.Few.{steps_most}

module _ (s : List ℕ) (len : ℕ) where
  -- A sheet that its check accepts is not refused, and its count is the total over the elements of its loads and stores.
  pub counted_accepted : (checked_sheet s len).refusal.number ≡ 0 → counted s len ≡ divisions_answer not_refused (total (divisions (read_sheet s).sheet len))
  unfolding counted pick
  counted_accepted fine = rw (eq-eqb (checked_sheet s len).refusal.number 0 fine) refl

  -- Another is refused as its check refuses it, at the same places, and nothing is counted.
  pub counted_refused : 0 < (checked_sheet s len).refusal.number → counted s len ≡ divisions_answer (checked_sheet s len).refusal 0
  unfolding counted pick
  counted_refused n = rw (ne_eqb (checked_sheet s len).refusal.number 0 (λ e. omega arith)) refl

module _ (l : Layout) where
  -- An element that is skipped takes no division,
  pub skipped_none : index_divisions l Skipped ≡ 0
  unfolding index_divisions
  skipped_none = refl

  -- and one with an index takes exactly one for each dimension whose span is above 1 while the index isn't 0:
  pub index_needed_lem : layout_ok l ≡ true → (i : ℕ) → i < 2 ^ 32 → index_divisions l (Index i) ≡ needed_divisions l i
  index_needed_lem ok i h = small_divisions l i h ∙ divided_divisions l ok i

-- at most five for each element of a sheet's loads and stores.
pub five_each : (sh : Sheet) (len : ℕ) → total (divisions sh len) ≤ rank_places * length (divisions sh len)
unfolding divisions
five_each sh len = steps_most sh len sh.steps 0 empty_registers.types
