-- The runs of outcomes that fit are in range, and so are their records.
use Prim.Native.Nat.{ℕ, zero, suc, ◌+◌, ◌*◌, ◌-◌, ◌≤◌, ◌<◌, ◌^◌}
use Rattle.std.specs.Prelude.{◌≡◌, Bool}
use Rattle.std.proofs.Common.{subst, arith}
use Rattle.numbers.specs.Lists.{each}
use Rattle.numbers.specs.Laws.Choice.{by_order}
use Rattle.outcomes.specs.declared.Outcome.{Outcome}
use Rattle.sheet.specs.Sizes.{register_count, memory_limit}
use Rattle.records.specs.declared.Record.{Record}
use Rattle.records.specs.declared.Record.TheVariants.{Fill}
use Rattle.records.specs.Records.{moved}
use Rattle.records.specs.Ranges.{Elements, InRange, AllRecords, AllInRange}
use Rattle.records.specs.Laws.Records.{all_append, moved_within}
use Rattle.runs.specs.declared.Run.{Run}
use Rattle.runs.specs.declared.Run.TheVariants.{Idle, Bytes, Fills}
use Rattle.runs.specs.Runs.{held, ending, run_records, ended_records, runs_records}
use Rattle.runs.proofs.Theorems.Longest.{Going, Pouring, Open, held_open, ending_open}
use Rattle.runs.specs.Ranges.{Fitting, Steady, Full, SmallRun}

module _ (f : ℕ → Outcome) (k : ℕ) (near : (i : ℕ) → i < k → Fitting (f i)) where
  module _ (e m b u d : ℕ) (g : Going f k e m b u d) where
    byte_near : (i : ℕ) → i < m → b + i * u - i * d < memory_limit
    byte_near i l = subst Fitting (g.at i l) (near (e + i) (omega (arith, g.ends)))

    step_near : (u < memory_limit) × (d < memory_limit)
    step_near =
        by_order 1 m
        (λ h.
        let p = byte_near 0 (omega arith) in
        let q = byte_near 1 h in
        let s = g.low 1 h in
        (omega (arith, g.way), omega (arith, g.way)))
        (λ h. let z = g.lone (omega (arith, g.some)) in (omega (arith, z.0), omega (arith, z.1)))

    steady : Steady k e m b u d
    steady =
        record {
          ends = g.ends;
          some = g.some;
          byte = omega (arith, byte_near 0 g.some);
          up = step_near.0;
          down = step_near.1;
          way = g.way;
        }

  full : (e m v : ℕ) → Pouring f k e m v → Full k e m v
  full e m v g =
      record { ends = g.ends; some = g.some; value = subst Fitting (g.at 0 g.some) (near (e + 0) (omega (arith, g.ends, g.some))) }

  small : (r : Run) → Open f k r → SmallRun k r
  small Idle g = tt
  small (Bytes e m b u d) g = steady e m b u d g
  small (Fills e m v) g = full e m v g

  pub held_small : SmallRun k (held f k)
  held_small = small (held f k) (held_open f k)

  pub ending_small : SmallRun k (ending f k)
  ending_small = small (ending f k) (ending_open f k)

-- ---- records

-- what holds of each run's record holds of all records of a step
module _ (P : Record → Type 0) (load : Bool) (register : ℕ) (f : ℕ → Outcome) (n : ℕ)
    (moves : (k e m b u d : ℕ) → k ≤ n → Going f k e m b u d → P (moved load register e m b u d))
    (fills : (k e m v : ℕ) → k ≤ n → Pouring f k e m v → P (Fill register e m v)) where
  run_all : (k : ℕ) (r : Run) → k ≤ n → Open f k r → AllRecords P (run_records load register r)
  run_all k Idle h g = tt
  run_all k (Bytes e m b u d) h g = (moves k e m b u d h g, tt)
  run_all k (Fills e m v) h g = (fills k e m v h g, tt)

  pub ending_all : (k : ℕ) → k ≤ n → AllRecords P (run_records load register (ending f k))
  ending_all k h = run_all k (ending f k) h (ending_open f k)

  pub held_all : (k : ℕ) → k ≤ n → AllRecords P (run_records load register (held f k))
  held_all k h = run_all k (held f k) h (held_open f k)

  ended_all : (k : ℕ) → k ≤ n → AllRecords P (ended_records load register f k)
  unfolding each
  ended_all zero h = tt
  ended_all (suc k) h =
      all_append P (ended_records load register f k) (run_records load register (ending f k)) (ended_all k (omega arith)) (ending_all k (omega arith))

  pub records_all : AllRecords P (runs_records load register f n)
  unfolding runs_records
  records_all =
      all_append P (ended_records load register f n) (run_records load register (held f n)) (ended_all n (omega arith)) (held_all n (omega arith))

-- the records of a step's runs are within their ranges
module _ (load : Bool) (register : ℕ) (few : register < register_count) (f : ℕ → Outcome) (n : ℕ) (l : n < 2 ^ 31) (near : (i : ℕ) → i < n → Fitting (f i)) where
  elements : {k e m : ℕ} → k ≤ n → e + m ≡ k → 1 ≤ m → Elements register e m
  elements h e s = record { register = few; first = omega arith; some = s; count = omega arith }

  move_within : (k e m b u d : ℕ) → k ≤ n → Going f k e m b u d → InRange (moved load register e m b u d)
  move_within k e m b u d h g =
      let s = steady f k (λ i q. near i (omega arith)) e m b u d g in
      moved_within load (elements h g.ends g.some)
      (record { byte = omega (arith, s.byte); up = omega (arith, s.up); down = omega (arith, s.down); way = s.way })

  fill_within : (k e m v : ℕ) → k ≤ n → Pouring f k e m v → InRange (Fill register e m v)
  fill_within k e m v h g = (elements h g.ends g.some, (full f k (λ i q. near i (omega arith)) e m v g).value)

  pub ending_within : (k : ℕ) → k ≤ n → AllInRange (run_records load register (ending f k))
  ending_within = ending_all InRange load register f n move_within fill_within

  pub held_within : (k : ℕ) → k ≤ n → AllInRange (run_records load register (held f k))
  held_within = held_all InRange load register f n move_within fill_within

  pub runs_within : AllInRange (runs_records load register f n)
  runs_within = records_all InRange load register f n move_within fill_within
