-- The records of a load or a store are those of its runs, each the longest even run from its first element, and of no other list of
-- runs: the theorems stand in crates/runs/specs, Longest.antt and Unique.antt, for any outcomes.
use Rattle.std.specs.Prelude.{ℕ, ◌≡◌, List, map}
use Rattle.std.proofs.Common.{sym}
use Rattle.addressing.specs.Rules.{elements_of}
use Rattle.addressing.specs.declared.Access.{Access}
use Rattle.transfers.specs.Transfers.{outcome_of}
use Rattle.records.specs.Records.{tape_numbers}
use Rattle.runs.specs.declared.Run.{Run}
use Rattle.runs.specs.Runs.{runs}
use Rattle.runs.specs.Even.{Stretch}
use Rattle.runs.proofs.Theorems.Longest.{LongestRun, AllRuns, runs_longest}
use Rattle.runs.proofs.Theorems.Unique.{run_of, stretches, runs_given}
use Rattle.runs.specs.RunRecords.{run_numbers}
use Rattle.runs.proofs.Laws.RunRecords.{records_of, of_runs, given_records, given_numbers}
use Rattle.access_tapes.specs.Accesses.{access_records}
use Rattle.access_tapes.specs.Given.{AccessGiven}

-- the runs of a load or a store
abbrev pub access_runs : Access → List Run
access_runs a = runs (outcome_of a) (elements_of a)

pub access_runs_lem : (a : Access) (register : ℕ) → access_records a register ≡ records_of a.load register (access_runs a)
access_runs_lem a register = sym (of_runs a.load register (outcome_of a) (elements_of a))

pub access_longest : (a : Access) → AllRuns (LongestRun (outcome_of a) (elements_of a)) (access_runs a)
access_longest a = runs_longest (outcome_of a) (elements_of a)

-- there is one ..
pub access_given : (a : Access) → AccessGiven a (stretches (access_runs a))
access_given a = runs_given (outcome_of a) (elements_of a)

-- .. and the records, and their numbers, are those of it
module _ (a : Access) (register : ℕ) (rs : List Stretch) (given : AccessGiven a rs) where
  pub access_records_lem : access_records a register ≡ records_of a.load register (map run_of rs)
  access_records_lem = given_records a.load register (outcome_of a) (elements_of a) rs given

  pub access_numbers : tape_numbers (access_records a register) ≡ run_numbers a.load register rs
  access_numbers = given_numbers a.load register (outcome_of a) (elements_of a) rs given
