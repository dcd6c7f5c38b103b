-- The records of a load's or a store's runs are those of the list of runs that document 01 gives, and so are their numbers.
use Prim.Native.Nat.{ℕ, zero, suc}
use Rattle.std.specs.Prelude.{◌≡◌, Bool, true, false}
use Rattle.std.proofs.Math.Path.{refl, ap₂}
use Rattle.std.proofs.Common.{sym, ap, ◌∙◌}
use mathlib.Core.List.{List, [], ◌∷◌, ◌++◌, map, append_assoc}
use Rattle.numbers.specs.Lists.{each}
use Rattle.outcomes.specs.declared.Outcome.{Outcome}
use Rattle.records.specs.declared.Record.{Record}
use Rattle.records.specs.Records.{tape_numbers, moved}
use Rattle.records.specs.Laws.ByteSteps.{difference_parts}
use Rattle.runs.specs.declared.Run.{Run}
use Rattle.runs.specs.declared.Run.TheVariants.{Idle, Bytes, Fills}
use Rattle.runs.specs.Runs.{emit, held, ending, ended, runs, run_records, ended_records, runs_records}
use Rattle.runs.specs.Even.{Stretch, bytes, fills, Given}
use Rattle.runs.proofs.Theorems.Unique.{run_of, runs_only}
use Rattle.runs.specs.RunRecords.{run_numbers}

module _ (load : Bool) (register : ℕ) where
  -- the records of runs, in order
  abbrev pub records_of : List Run → List Record
  records_of [] = []
  records_of (r ∷ rs) = run_records load register r ++ records_of rs

  of_append : (rs qs : List Run) → records_of (rs ++ qs) ≡ records_of rs ++ records_of qs
  of_append [] qs = refl
  of_append (r ∷ rs) qs = rw (of_append rs qs) (sym (append_assoc (run_records load register r) (records_of rs) (records_of qs)))

  of_emit : (r : Run) → records_of (emit r) ≡ run_records load register r
  of_emit Idle = refl
  of_emit (Bytes first count byte up down) = refl
  of_emit (Fills first count value) = refl

  module _ (f : ℕ → Outcome) where
    of_ended : (n : ℕ) → records_of (ended f n) ≡ ended_records load register f n
    unfolding each
    of_ended zero = refl
    of_ended (suc n) = of_append (ended f n) (emit (ending f n)) ∙ ap₂ (λ (a b : List Record). a ++ b) (of_ended n) (of_emit (ending f n))

    pub of_runs : (n : ℕ) → records_of (runs f n) ≡ runs_records load register f n
    unfolding runs runs_records
    of_runs n = of_append (ended f n) (emit (held f n)) ∙ ap₂ (λ (a b : List Record). a ++ b) (of_ended n) (of_emit (held f n))

-- ---- the six numbers

same_numbers : (load : Bool) (register : ℕ) (rs : List Stretch) → tape_numbers (records_of load register (map run_of rs)) ≡ run_numbers load register rs
unfolding moved
same_numbers load register [] = refl
same_numbers true register (bytes e m b s ∷ rs) = rw (difference_parts s, same_numbers true register rs)
same_numbers false register (bytes e m b s ∷ rs) = rw (difference_parts s, same_numbers false register rs)
same_numbers load register (fills e m v ∷ rs) = rw (same_numbers load register rs)

module _ (load : Bool) (register : ℕ) (f : ℕ → Outcome) (n : ℕ) (rs : List Stretch) (given : Given f n rs) where
  pub given_records : runs_records load register f n ≡ records_of load register (map run_of rs)
  given_records = sym (of_runs load register f n) ∙ ap (records_of load register) (runs_only f n rs given)

  pub given_numbers : tape_numbers (runs_records load register f n) ≡ run_numbers load register rs
  given_numbers = ap tape_numbers given_records ∙ same_numbers load register rs
