-- What a loop over the elements keeps: the open run, the records so far and their number.
use Prim.Native.Nat.{ℕ, zero, suc, ◌+◌, ◌*◌, ◌≤◌, ◌<◌}
use Rattle.std.specs.Prelude.{◌≡◌, Bool, List, ◌++◌, eqb, ℤ, length}
use Rattle.std.proofs.Math.Path.{refl}
use Rattle.std.proofs.Common.{sym, ap, ◌∙◌, arith, length-append}
use Rattle.std.proofs.Math.Numerals.{add-one}
use Rattle.std.proofs.lemmas.List.Edits.{sets}
use Rattle.std.proofs.Math.Seq.{length-sets}
use Rattle.numbers.specs.Laws.Choice.{pick_case}
use Rattle.numbers.specs.Lists.{each}
use Rattle.numbers.specs.Laws.Lists.{each_more, each_fits, length_each_more, puts_after}
use Rattle.outcomes.specs.declared.Outcome.{Outcome}
use Rattle.outcomes.specs.declared.Outcome.TheVariants.{Skipped, Filled, Discarded, Placed}
use Rattle.records.specs.Records.{record_length, tape_numbers}
use Rattle.records.specs.Laws.Records.{length_tape, tape_append}
use Rattle.runs.specs.declared.Run.{Run}
use Rattle.runs.specs.declared.Run.TheVariants.{Idle, Bytes, Fills}
use Rattle.runs.specs.declared.Progress.{Progress}
use Rattle.runs.specs.Runs.{meet_byte, meet_fill, next, emit, held, ending, ended, runs, run_records, ended_records, runs_records}

-- ---- the open run

pub held_none : (f : ℕ → Outcome) → held f 0 ≡ Idle
unfolding held
held_none f = refl

module _ (f : ℕ → Outcome) (k : ℕ) {r : Run} {o : Outcome} {t : Progress} (is : r ≡ held f k) (at : o ≡ f k) (so : t ≡ next r k o) where
  turn_is : t ≡ next (held f k) k (f k)
  turn_is = so ∙ rw (is, at)

  pub ending_is : t.done ≡ ending f k
  ending_is = ap (λ (x : Progress). x.done) turn_is

  pub held_more : t.held ≡ held f (k + 1)
  unfolding held
  held_more = rw add-one (ap (λ (x : Progress). x.held) turn_is)

-- ---- the number of records

one_each : (load : Bool) (register : ℕ) (r : Run) → length (run_records load register r) ≡ length (emit r)
one_each load register Idle = refl
one_each load register (Bytes e m b u d) = refl
one_each load register (Fills e m v) = refl

ended_each : (load : Bool) (register : ℕ) (f : ℕ → Outcome) (k : ℕ) → length (ended_records load register f k) ≡ length (ended f k)
unfolding each
ended_each load register f zero = refl
ended_each load register f (suc k) =
    length-append (ended_records load register f k) (run_records load register (ending f k))
    ∙ rw (ended_each load register f k, one_each load register (ending f k)) (sym (length-append (ended f k) (emit (ending f k))))

-- a record a run
pub count_records : (load : Bool) (register : ℕ) (f : ℕ → Outcome) (n : ℕ) → length (runs_records load register f n) ≡ length (runs f n)
unfolding runs runs_records
count_records load register f n =
    length-append (ended_records load register f n) (run_records load register (held f n))
    ∙ rw (ended_each load register f n, one_each load register (held f n)) (sym (length-append (ended f n) (emit (held f n))))

pub count_none : (f : ℕ → Outcome) → length (ended f 0) ≡ 0
unfolding each
count_none f = refl

pub count_more : (f : ℕ → Outcome) (k : ℕ) → length (ended f (k + 1)) ≡ length (ended f k) + length (emit (ending f k))
count_more f k = length_each_more k (λ (i : ℕ). emit (ending f i))

pub emit_one : (r : Run) → length (emit r) ≤ 1
emit_one Idle = omega arith
emit_one (Bytes e m b u d) = omega arith
emit_one (Fills e m v) = omega arith

-- an element makes one run more at most
abbrev Few : ℕ → Progress → Type 0
Few n p = length (emit p.done) + length (emit p.held) ≤ n + 1

next_few : (r : Run) (k : ℕ) (o : Outcome) → Few (length (emit r)) (next r k o)
unfolding next meet_byte meet_fill
next_few r k Skipped = omega arith
next_few r k Discarded = omega arith
next_few Idle k (Placed b) = omega arith
next_few (Fills e m v) k (Placed b) = omega arith
next_few (Bytes e m b u d) k (Placed b') =
    pick_case (Few 1) (eqb m 1) _ _ (λ q. omega arith)
    (λ q. pick_case (Few 1) (eqb (b' + m * d) (b + m * u)) _ _ (λ p. omega arith) (λ p. omega arith))
next_few Idle k (Filled v) = omega arith
next_few (Bytes e m b u d) k (Filled v) = omega arith
next_few (Fills e m v) k (Filled v') = pick_case (Few 1) (eqb v' v) _ _ (λ q. omega arith) (λ q. omega arith)

-- so there are no more runs than elements, the open one among them
pub count_few : (f : ℕ → Outcome) (k : ℕ) → length (ended f k) + length (emit (held f k)) ≤ k
unfolding each held
count_few f zero = omega arith
count_few f (suc k) =
    rw (length-append (ended f k) (emit (ending f k))) (omega (arith, count_few f k, next_few (held f k) k (f k)))

pub count_all : (f : ℕ → Outcome) (n : ℕ) → length (runs f n) ≡ length (ended f n) + length (emit (held f n))
unfolding runs
count_all f n = length-append (ended f n) (emit (held f n))

-- ---- the tape: from record `start` on, the records of the runs that the first k elements ended

pub record Written (load : Bool) (register : ℕ) (f : ℕ → Outcome) (start : ℕ) (out₀ : List ℤ) (k : ℕ) (out : List ℤ) (at : ℕ) : Type 0 where
  pub place : at ≡ start + length (ended f k)
  pub same : out ≡ sets out₀ (start * record_length) (tape_numbers (ended_records load register f k))

module _ (load : Bool) (register : ℕ) (f : ℕ → Outcome) (start : ℕ) (out₀ : List ℤ) where
  abbrev Upto : ℕ → List ℤ → ℕ → Type 0
  Upto = Written load register f start out₀

  pub written_none : Upto 0 out₀ start
  unfolding each
  written_none = record { place = omega arith; same = refl }

  module _ (k : ℕ) (out : List ℤ) (at : ℕ) (w : Upto k out at) where
    pub written_length : length out ≡ length out₀
    written_length = ap length w.same ∙ length-sets out₀ (start * record_length) (tape_numbers (ended_records load register f k))

    here : at * record_length ≡ start * record_length + length (tape_numbers (ended_records load register f k))
    here = rw (length_tape (ended_records load register f k), ended_each load register f k) (omega (arith, w.place))

    -- one run's records after the others
    after : (r : Run) {out₁ : List ℤ} → out₁ ≡ sets out (at * record_length) (tape_numbers (run_records load register r))
        → out₁ ≡ sets out₀ (start * record_length) (tape_numbers (ended_records load register f k ++ run_records load register r))
    after r e =
        rw (tape_append (ended_records load register f k) (run_records load register r))
        (puts_after out₀ (start * record_length) (tape_numbers (ended_records load register f k)) (tape_numbers (run_records load register r)) w.same (rw here at e))

    pub written_more : (out₁ : List ℤ) (at₁ : ℕ) → at₁ ≡ at + length (emit (ending f k))
        → out₁ ≡ sets out (at * record_length) (tape_numbers (run_records load register (ending f k))) → Upto (k + 1) out₁ at₁
    written_more out₁ at₁ p q =
        record {
          place = omega (arith, p, w.place, count_more f k);
          same = rw (each_more k (λ (i : ℕ). run_records load register (ending f i))) (after (ending f k) q);
        }

    -- the room that writing wants, for the run that element k ends and for the last
    pub room_more : (n : ℕ) → k < n → (start + length (runs f n)) * record_length ≤ length out₀ → (at + length (emit (ending f k))) * record_length ≤ length out
    room_more n h l =
        omega (arith, w.place, written_length, count_all f n, each_fits n (λ (i : ℕ). emit (ending f i)) k h)

    pub room_last : (start + length (runs f k)) * record_length ≤ length out₀ → (at + length (emit (held f k))) * record_length ≤ length out
    room_last l = omega (arith, w.place, written_length, count_all f k)

    pub written_place : (at₁ : ℕ) → at₁ ≡ at + length (emit (held f k)) → at₁ ≡ start + length (runs f k)
    written_place at₁ p = omega (arith, p, w.place, count_all f k)

    pub written_all : (out₁ : List ℤ) → out₁ ≡ sets out (at * record_length) (tape_numbers (run_records load register (held f k)))
        → out₁ ≡ sets out₀ (start * record_length) (tape_numbers (runs_records load register f k))
    unfolding runs_records
    written_all out₁ q = after (held f k) q

-- ---- outcomes past the last element do not matter

module _ (f g : ℕ → Outcome) where
  pub held_same : (n : ℕ) → ((i : ℕ) → i < n → f i ≡ g i) → held f n ≡ held g n
  unfolding held
  held_same zero h = refl
  held_same (suc n) h =
      let p = held_same n (λ i l. h i (omega arith)) in
      let q = h n (omega arith) in
      λ i. (next (p i) n (q i)).held

  ended_same : (n : ℕ) → ((i : ℕ) → i < n → f i ≡ g i) → ended f n ≡ ended g n
  unfolding each
  ended_same zero h = refl
  ended_same (suc n) h =
      let r = ended_same n (λ i l. h i (omega arith)) in
      let p = held_same n (λ i l. h i (omega arith)) in
      let q = h n (omega arith) in
      λ i. r i ++ emit (next (p i) n (q i)).done

  pub runs_same : (n : ℕ) → ((i : ℕ) → i < n → f i ≡ g i) → runs f n ≡ runs g n
  unfolding runs
  runs_same n h = rw (ended_same n h, held_same n h)
