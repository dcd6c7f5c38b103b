-- Explaining one element of a sheet's load or store in a memory of a length: refusals as the check gives them, then 5 where there is no such element.
use Rattle.std.specs.Prelude.{ℕ, List, ltb, eqb, length, get_or}
use Rattle.numbers.specs.Choice.{pick}
use Rattle.refusals.specs.Refusals.{beyond_sizes, refusal_at, not_refused}
use Rattle.refusals.specs.declared.Refusal.{Refusal}
use Rattle.outcomes.specs.declared.Outcome.TheVariants.{Skipped}
use Rattle.outcomes.specs.declared.Outside.TheVariants.{Nowhere}
use Rattle.outcomes.specs.declared.Explained.{Explained}
use Rattle.sheet_reader.specs.Reading.{read_sheet}
use Rattle.checking.specs.Checking.{checked_sheet}
use Rattle.explaining.specs.declared.Asked.{Asked}
use Rattle.explaining.specs.declared.Asked.TheVariants.{Nothing, Element}
use Rattle.explaining.specs.declared.ExplainAnswer.{ExplainAnswer}
use Rattle.explaining.specs.Elements.{sheet_explained}

abbrev pub explain_answer : Refusal → Explained → ExplainAnswer
explain_answer r x = record { refusal = r; explained = x }

-- what stands beside a refusal
abbrev pub nothing_explained : Explained
nothing_explained = record { outcome = Skipped; outside = Nowhere }

-- element e of a step's, if it has so many
unfoldable pub asked : List Explained → ℕ → Asked
asked xs e = pick (ltb e (length xs)) (Element (get_or xs e nothing_explained)) Nothing

-- Refusal 5, at the step and the element: the step is no load or store, or the element is past its matrix
abbrev pub answered_by : ℕ → ℕ → Asked → ExplainAnswer
answered_by step e Nothing = explain_answer (refusal_at beyond_sizes step e) nothing_explained
answered_by step e (Element x) = explain_answer not_refused x

unfoldable pub explained_sheet : List ℕ → ℕ → ℕ → ℕ → ExplainAnswer
explained_sheet s len step e =
    pick (eqb (checked_sheet s len).refusal.number 0)
    (answered_by step e (asked (sheet_explained (read_sheet s).sheet len step) e))
    (explain_answer (checked_sheet s len).refusal nothing_explained)
