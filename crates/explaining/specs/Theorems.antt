-- What is told of an element.
use Rattle.std.specs.Prelude.{ℕ, ◌/◌, ◌%◌, ◌<◌, ◌≡◌, List, length, get_or}
use Rattle.std.proofs.Math.Path.{refl}
use Rattle.std.proofs.Common.{ap, ◌∙◌, arith, eq-eqb, ne_eqb, lt-ltb, le-ltb}
use Rattle.std.proofs.Math.ListN.{get_or-eq_default}
use Rattle.numbers.specs.Choice.{pick}
use Rattle.numbers.specs.Laws.Choice.{by_order}
use Rattle.outcomes.specs.declared.Outcome.TheVariants as outcome
use Rattle.outcomes.specs.declared.Explained.{Explained}
use Rattle.sheet.specs.declared.Tensors.{Tensors}
use Rattle.sheet.specs.declared.Sheet.{Sheet}
use Rattle.sheet.specs.declared.Step.{Step}
use Rattle.sheet.specs.declared.Step.TheVariants.{Nothing, Load, Store, Whole}
use Rattle.sheet_ranges.specs.Steps.{the_step}
use Rattle.registers.specs.declared.MatrixType.{MatrixType}
use Rattle.accepted.specs.Passes.{types_at}
use Rattle.accepted.specs.Elements.{of_access, of_step, at_step}
use Rattle.accepted.specs.Laws.Elements.{access_count, access_at, at_step_lem, at_past}
use Rattle.sheet_reader.specs.Reading.{read_sheet}
use Rattle.spans.specs.Spans.{span_coordinates}
use Rattle.clamps.specs.Sides.{side_at}
use Rattle.clamps.specs.Named.{First}
use Rattle.clamps.proofs.Theorems.{first_named}
use Rattle.addressing.specs.Rules.{elements_of, indexed, located}
use Rattle.addressing.specs.declared.Access.{Access}
use Rattle.addressing.specs.declared.Indexed.TheVariants.{Index}
use Rattle.accesses.specs.Refusals.{element_outcome}
use Rattle.transfers.specs.Transfers.{outcome_of}
use Rattle.checking.specs.Checking.{checked_sheet}
use Rattle.explaining.specs.Elements.{outside_of, explained, sheet_explained}
use Rattle.explaining.specs.Explaining.{explain_answer, nothing_explained, asked, answered_by, explained_sheet}
use Rattle.explaining.specs.Beside.{Beside}
use Rattle.explaining.specs.declared.ExplainAnswer.{ExplainAnswer}
use Rattle.explaining.specs.Laws.Sides.{landed_beside}

module _ (a : Access) (e : ℕ) where
  -- A skipped element has no dimension named, a filled one and a discarded one have one.
  pub outcome_beside : Beside (element_outcome a e).refusal (element_outcome a e).outcome (explained a e).outside
  unfolding element_outcome located outside_of
  outcome_beside = landed_beside a (indexed a (e / a.columns) (e % a.columns))

  -- Of an element with an index the named dimension is the first that is not inside by its span coordinates; none is named exactly where every one is inside.
  pub index_named : (i : ℕ) → indexed a (e / a.columns) (e % a.columns) ≡ Index i
      → First (side_at a.layout (span_coordinates a.layout i)) a.layout.rank (explained a e).outside
  unfolding outside_of
  index_named i q = rw q (first_named a.layout (span_coordinates a.layout i))

module _ (s : List ℕ) (len step e : ℕ) where
  -- A sheet that its check accepts is answered by the step's elements: by element e, or with refusal 5 at (step, e) where there is none.
  pub explained_accepted : (checked_sheet s len).refusal.number ≡ 0
      → explained_sheet s len step e ≡ answered_by step e (asked (sheet_explained (read_sheet s).sheet len step) e)
  unfolding explained_sheet pick
  explained_accepted fine = rw (eq-eqb (checked_sheet s len).refusal.number 0 fine) refl

  -- Another is refused as its check refuses it, at the same places, and nothing is told.
  pub explained_refused : 0 < (checked_sheet s len).refusal.number → explained_sheet s len step e ≡ explain_answer (checked_sheet s len).refusal nothing_explained
  unfolding explained_sheet pick
  explained_refused n = rw (ne_eqb (checked_sheet s len).refusal.number 0 (λ q. omega arith)) refl

-- Beside the dimension the outcome is the one of the sheet's outcomes, by which tapes, masks and traces go.
access_outcome : (a : Access) (e : ℕ) → (get_or (of_access explained a) e nothing_explained).outcome ≡ get_or (of_access outcome_of a) e outcome.Skipped
access_outcome a e =
    by_order e (elements_of a)
    (λ h. rw (access_at explained a e nothing_explained h, access_at outcome_of a e outcome.Skipped h) refl)
    (λ h. rw (get_or-eq_default (of_access explained a) nothing_explained {n = e} (omega (arith, access_count explained a)), get_or-eq_default (of_access outcome_of a) outcome.Skipped {n = e} (omega (arith, access_count outcome_of a))) refl)

step_outcome : (tensors : Tensors) (ts : List MatrixType) (len k : ℕ) (step : Step) (e : ℕ)
    → (get_or (of_step (λ (n : ℕ). explained) tensors ts len k step) e nothing_explained).outcome ≡ get_or (of_step (λ (n : ℕ). outcome_of) tensors ts len k step) e outcome.Skipped
unfolding of_step
step_outcome tensors ts len k Nothing e = refl
step_outcome tensors ts len k (Load register object window) e = access_outcome _ e
step_outcome tensors ts len k (Store register window) e = access_outcome _ e
step_outcome tensors ts len k (Whole whole) e = refl

sheet_outcome : (sh : Sheet) (len k e : ℕ) → (get_or (sheet_explained sh len k) e nothing_explained).outcome ≡ get_or (at_step (λ (n : ℕ). outcome_of) sh len k) e outcome.Skipped
sheet_outcome sh len k e =
    by_order k sh.steps
    (λ h. rw (at_step_lem (λ (n : ℕ). explained) sh len k h, at_step_lem (λ (n : ℕ). outcome_of) sh len k h) (step_outcome sh.tensors (types_at sh len k) len k (the_step sh.step k) e))
    (λ h. rw (at_past (λ (n : ℕ). explained) sh len k h, at_past (λ (n : ℕ). outcome_of) sh len k h) refl)

asked_outcome : (xs : List Explained) (step e : ℕ) → (answered_by step e (asked xs e)).explained.outcome ≡ (get_or xs e nothing_explained).outcome
unfolding asked pick
asked_outcome xs step e =
    by_order e (length xs) (λ h. rw (lt-ltb e (length xs) h) refl)
    (λ h. rw (le-ltb e (length xs) h, get_or-eq_default xs nothing_explained h) refl)

pub outcome_kept : (s : List ℕ) (len step e : ℕ) → (checked_sheet s len).refusal.number ≡ 0
    → (explained_sheet s len step e).explained.outcome ≡ get_or (at_step (λ (n : ℕ). outcome_of) (read_sheet s).sheet len step) e outcome.Skipped
outcome_kept s len step e fine =
    ap (λ (r : ExplainAnswer). r.explained.outcome) (explained_accepted s len step e fine)
    ∙ asked_outcome (sheet_explained (read_sheet s).sheet len step) step e
    ∙ sheet_outcome (read_sheet s).sheet len step e
