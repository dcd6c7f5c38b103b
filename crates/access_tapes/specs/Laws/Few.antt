-- The most records of a load or a store.
use Rattle.std.specs.Prelude.{ℕ, ◌≤◌, length}
use Rattle.std.proofs.Common.{arith}
use Rattle.outcomes.specs.declared.Outcome.{Outcome}
use Rattle.addressing.specs.Rules.{elements_of}
use Rattle.addressing.specs.declared.Access.{Access}
use Rattle.transfers.specs.Transfers.{outcome_of}
use Rattle.runs.specs.Runs.{runs}
use Rattle.runs.proofs.Laws.Writing.{count_all, count_few, count_records}
use Rattle.access_tapes.specs.Accesses.{access_records}

-- no more runs than elements
runs_few : (f : ℕ → Outcome) (n : ℕ) → length (runs f n) ≤ n
runs_few f n = omega (arith, count_all f n, count_few f n)

pub access_few : (a : Access) (register : ℕ) → length (access_records a register) ≤ elements_of a
access_few a register = rw (count_records a.load register (outcome_of a) (elements_of a)) (runs_few (outcome_of a) (elements_of a))
