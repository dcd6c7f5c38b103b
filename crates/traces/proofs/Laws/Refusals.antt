-- A trace is refused at no element, and one without a refusal's number has no place either.
use Rattle.std.specs.Prelude.{ℕ, ◌≡◌, refl, List}
use Rattle.std.proofs.Common.{arith}
use Rattle.refusals.specs.Refusals.{not_refused}
use Rattle.traces.specs.Reading.{Trace, read_trace}
use Rattle.traces.proofs.Laws.Ways.{Ways, reads}
use Rattle.traces.specs.declared.Previous.{Previous}

module _ (s : List ℕ) where
  abbrev Whole : ℕ → Previous → Trace → Type 0
  Whole at previous t = t.refusal.element ≡ 0

  whole_ways : Ways s Whole
  whole_ways = record {
    refused = λ at previous n h p. refl;
    ended = λ at previous q. refl;
    taken = λ at previous rest t more. more;
  }

  pub refusal_element : (read_trace s).refusal.element ≡ 0
  refusal_element = reads s Whole whole_ways

  abbrev Clear : ℕ → Previous → Trace → Type 0
  Clear at previous t = t.refusal.number ≡ 0 → t.refusal ≡ not_refused

  clear_ways : Ways s Clear
  clear_ways = record {
    refused = λ at previous n h p e. absurd (omega arith);
    ended = λ at previous q e. refl;
    taken = λ at previous rest t more. more;
  }

  pub refusal_none : (read_trace s).refusal.number ≡ 0 → (read_trace s).refusal ≡ not_refused
  refusal_none = reads s Clear clear_ways
