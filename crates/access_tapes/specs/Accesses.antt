-- The outcomes and the records of a load or a store.
use Rattle.std.specs.Prelude.{ℕ, List}
use Rattle.outcomes.specs.declared.Outcome.{Outcome}
use Rattle.addressing.specs.Rules.{elements_of}
use Rattle.addressing.specs.declared.Access.{Access}
use Rattle.transfers.specs.Transfers.{outcome_of}
use Rattle.accepted.specs.Elements.{of_access}
use Rattle.records.specs.declared.Record.{Record}
use Rattle.runs.specs.Runs.{runs_records}

-- the outcomes of its elements, by which its mask goes
abbrev pub access_outcomes : Access → List Outcome
access_outcomes a = of_access outcome_of a

-- a record for each of its runs
abbrev pub access_records : Access → ℕ → List Record
access_records a register = runs_records a.load register (outcome_of a) (elements_of a)
