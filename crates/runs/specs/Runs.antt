-- The runs of a load or a store, as its elements' outcomes give them: element 0 has f 0, and so on.
use Rattle.std.specs.Prelude.{ℕ, zero, suc, ◌+◌, ◌*◌, ◌-◌, Bool, List, [], ◌∷◌, ◌++◌, eqb}
use Rattle.numbers.specs.Choice.{pick}
use Rattle.numbers.specs.Lists.{each}
use Rattle.outcomes.specs.declared.Outcome.{Outcome}
use Rattle.outcomes.specs.declared.Outcome.TheVariants.{Skipped, Filled, Discarded, Placed}
use Rattle.records.specs.declared.Record.{Record}
use Rattle.records.specs.declared.Record.TheVariants.{Fill}
use Rattle.records.specs.Records.{moved}
use Rattle.runs.specs.declared.Run.{Run}
use Rattle.runs.specs.declared.Run.TheVariants.{Idle, Bytes, Fills}
use Rattle.runs.specs.declared.Progress.{Progress}

-- the run that is done, and the run that is open
abbrev pub progress : Run → Run → Progress
progress r s = record { done = r; held = s }

-- a run of one has step 0
abbrev pub lone : ℕ → ℕ → Run
lone k b = Bytes k 1 b 0 0

-- a run of bytes and the next element's byte b: the second element gives the step, a later one joins at the same step
unfoldable pub meet_byte : ℕ → ℕ → ℕ → ℕ → ℕ → ℕ → ℕ → Progress
meet_byte first count byte up down k b =
    pick (eqb count 1) (progress Idle (Bytes first 2 byte (b - byte) (byte - b)))
    (pick (eqb (b + count * down) (byte + count * up)) (progress Idle (Bytes first (count + 1) byte up down))
    (progress (Bytes first count byte up down) (lone k b)))

-- a run of fills and the next element's fill: it joins with the same bits
unfoldable pub meet_fill : ℕ → ℕ → ℕ → ℕ → ℕ → Progress
meet_fill first count value k v =
    pick (eqb v value) (progress Idle (Fills first (count + 1) value)) (progress (Fills first count value) (Fills k 1 v))

-- a run takes the next element k while it is of the same sort and, for bytes, at the same step;
-- skipped and discarded elements end a run
unfoldable pub next : Run → ℕ → Outcome → Progress
next r k Skipped = progress r Idle
next r k Discarded = progress r Idle
next Idle k (Placed b) = progress Idle (lone k b)
next (Fills first count value) k (Placed b) = progress (Fills first count value) (lone k b)
next (Bytes first count byte up down) k (Placed b) = meet_byte first count byte up down k b
next Idle k (Filled v) = progress Idle (Fills k 1 v)
next (Bytes first count byte up down) k (Filled v) = progress (Bytes first count byte up down) (Fills k 1 v)
next (Fills first count value) k (Filled v) = meet_fill first count value k v

-- no run writes nothing
abbrev pub emit : Run → List Run
emit Idle = []
emit (Bytes first count byte up down) = Bytes first count byte up down ∷ []
emit (Fills first count value) = Fills first count value ∷ []

-- the open run after the first k elements
unfoldable pub held : (ℕ → Outcome) → ℕ → Run
held f zero = Idle
held f (suc k) = (next (held f k) k (f k)).held

-- the run that element k ends, if any
abbrev pub ending : (ℕ → Outcome) → ℕ → Run
ending f k = (next (held f k) k (f k)).done

-- the runs that the first k elements ended, in order
abbrev pub ended : (ℕ → Outcome) → ℕ → List Run
ended f k = each k (λ (i : ℕ). emit (ending f i))

-- the runs of the first n elements, in order
unfoldable pub runs : (ℕ → Outcome) → ℕ → List Run
runs f n = ended f n ++ emit (held f n)

-- the record of a run: of a load a take, of a store a put
abbrev pub run_records : Bool → ℕ → Run → List Record
run_records load register Idle = []
run_records load register (Bytes first count byte up down) = moved load register first count byte up down ∷ []
run_records load register (Fills first count value) = Fill register first count value ∷ []

abbrev pub ended_records : Bool → ℕ → (ℕ → Outcome) → ℕ → List Record
ended_records load register f k = each k (λ (i : ℕ). run_records load register (ending f i))

-- the records of the runs of the first n elements, in order
unfoldable pub runs_records : Bool → ℕ → (ℕ → Outcome) → ℕ → List Record
runs_records load register f n = ended_records load register f n ++ run_records load register (held f n)
