-- Agreement on any state: the runs of a step, and their records, leave what its elements leave, one after the other.
use Prim.Native.Nat.{ℕ, zero, suc, ◌+◌, ◌*◌, ◌-◌, ◌≤◌, ◌<◌}
use Rattle.std.specs.Prelude.{◌≡◌, Bool}
use Rattle.std.proofs.Math.Path.{refl, sym, ap}
use Rattle.std.proofs.Common.{◌∙◌, arith}
use mathlib.Core.List.{List, [], ◌∷◌, ◌++◌}
use Rattle.std.proofs.Math.Numerals.{add-one}
use Rattle.numbers.specs.Orders.{in_order}
use Rattle.numbers.specs.Lists.{each}
use Rattle.outcomes.specs.declared.Outcome.{Outcome}
use Rattle.outcomes.specs.declared.Outcome.TheVariants.{Skipped, Filled, Discarded, Placed}
use Rattle.records.specs.declared.Record.{Record}
use Rattle.records.specs.declared.Record.TheVariants.{Fill}
use Rattle.records.specs.Records.{moved}
use Rattle.runs.specs.declared.Run.{Run}
use Rattle.runs.specs.declared.Run.TheVariants.{Idle, Bytes, Fills}
use Rattle.runs.specs.Runs.{next, held, runs, run_records, ended_records, runs_records}
use Rattle.runs.proofs.Theorems.Longest.{Open, held_open, ending_open}
use Rattle.runs.specs.Acts.{Act, one, spread, pour, acts, acts_all, meet, give}
use Rattle.runs.proofs.Theorems.Acts.{kept, held_ends, runs_acts}

-- records on a state, one after the other
unfoldable pub perform_all : {S : Type 0} → (Record → S → S) → List Record → S → S
perform_all perform [] s = s
perform_all perform (r ∷ rs) s = perform_all perform rs (perform r s)

pub perform_all_append : {S : Type 0} (perform : Record → S → S) (rs qs : List Record) (s : S) → perform_all perform (rs ++ qs) s ≡ perform_all perform qs (perform_all perform rs s)
unfolding perform_all
perform_all_append perform [] qs s = refl
perform_all_append perform (r ∷ rs) qs s = perform_all_append perform rs qs (perform r s)

module _ {S : Type 0} (act : S → Act → S) where
  -- acts on a state, one after the other
  unfoldable pub fold : S → List Act → S
  fold s [] = s
  fold s (x ∷ xs) = fold (act s x) xs

  -- the outcomes of the first n elements on a state, one after the other
  unfoldable pub elementwise : (ℕ → Outcome) → ℕ → S → S
  elementwise f zero s = s
  elementwise f (suc n) s = fold (elementwise f n s) (one n (f n))

  -- runs on a state, one after the other
  unfoldable pub runwise : List Run → S → S
  runwise [] s = s
  runwise (r ∷ rs) s = runwise rs (fold s (acts r))

  pub fold_append : (s : S) (xs ys : List Act) → fold s (xs ++ ys) ≡ fold (fold s xs) ys
  unfolding fold
  fold_append s [] ys = refl
  fold_append s (x ∷ xs) ys = fold_append (act s x) xs ys

  runwise_fold : (rs : List Run) (s : S) → runwise rs s ≡ fold s (acts_all rs)
  unfolding runwise acts_all fold
  runwise_fold [] s = refl
  runwise_fold (r ∷ rs) s = runwise_fold rs (fold s (acts r)) ∙ sym (fold_append s (acts r) (acts_all rs))

  elementwise_fold : (f : ℕ → Outcome) (n : ℕ) (s : S) → elementwise f n s ≡ fold s (each n (λ (i : ℕ). one i (f i)))
  unfolding elementwise each fold
  elementwise_fold f zero s = refl
  elementwise_fold f (suc n) s =
      ap (λ (t : S). fold t (one n (f n))) (elementwise_fold f n s)
      ∙ sym (fold_append s (each n (λ (i : ℕ). one i (f i))) (one n (f n)))

  -- the runs leave what the elements leave, whatever meeting a byte and being given bits do
  pub same_state : (f : ℕ → Outcome) (n : ℕ) (s : S) → runwise (runs f n) s ≡ elementwise f n s
  same_state f n s = runwise_fold (runs f n) s ∙ ap (fold s) (runs_acts f n) ∙ sym (elementwise_fold f n s)

  -- ---- one more of each

  pub elementwise_more : (f : ℕ → Outcome) (n : ℕ) (s : S) → elementwise f (n + 1) s ≡ fold (elementwise f n s) (one n (f n))
  unfolding elementwise
  elementwise_more f n s = rw add-one

  pub spread_none : (first byte up down : ℕ) (s : S) → fold s (spread first 0 byte up down) ≡ s
  unfolding spread each fold
  spread_none first byte up down s = refl

  pub spread_more : (first n byte up down : ℕ) (s : S)
      → fold s (spread first (n + 1) byte up down) ≡ act (fold s (spread first n byte up down)) (meet (first + n) (byte + n * up - n * down))
  unfolding spread each fold
  spread_more first n byte up down s =
      rw add-one (fold_append s (spread first n byte up down) (meet (first + n) (byte + n * up - n * down) ∷ []))

  pub pour_none : (first value : ℕ) (s : S) → fold s (pour first 0 value) ≡ s
  unfolding pour each fold
  pour_none first value s = refl

  pub pour_more : (first n value : ℕ) (s : S) → fold s (pour first (n + 1) value) ≡ act (fold s (pour first n value)) (give (first + n) value)
  unfolding pour each fold
  pour_more first n value s = rw add-one (fold_append s (pour first n value) (give (first + n) value ∷ []))

-- records on a state, one after the other, where a take or put and a fill of this register do their elements' acts;
-- of a fill that is asked only where some element is filled so
module _ {S : Type 0} (act : S → Act → S) (perform : Record → S → S) (load : Bool) (register : ℕ) (f : ℕ → Outcome) (n : ℕ)
    (moves : (first count byte up down : ℕ) (s : S) → perform (moved load register first count byte up down) s ≡ fold act s (spread first count byte up down))
    (fills : (first count value : ℕ) (s : S) (i : ℕ) → i < n → f i ≡ Filled value → perform (Fill register first count value) s ≡ fold act s (pour first count value)) where
  run_performed : (k : ℕ) (r : Run) → k ≤ n → Open f k r → (s : S) → perform_all perform (run_records load register r) s ≡ fold act s (acts r)
  unfolding perform_all fold
  run_performed k Idle h g s = refl
  run_performed k (Bytes first count byte up down) h g s = moves first count byte up down s
  run_performed k (Fills first count value) h g s =
      fills first count value s (first + 0) (omega (arith, g.ends, g.some)) (g.at 0 g.some)

  -- the records that are written and the open run stand for the first k elements
  performed_upto : (k : ℕ) → k ≤ n → (s : S) → fold act (perform_all perform (ended_records load register f k) s) (acts (held f k)) ≡ elementwise act f k s
  unfolding held each perform_all fold elementwise
  performed_upto zero h s = refl
  performed_upto (suc k) h s =
      let p = perform_all perform (ended_records load register f k) s in
      let t = next (held f k) k (f k) in
      ap (λ (x : S). fold act x (acts t.held))
      (perform_all_append perform (ended_records load register f k) (run_records load register t.done) s
      ∙ run_performed k t.done (omega arith) (ending_open f k) p)
      ∙ sym (fold_append act p (acts t.done) (acts t.held))
      ∙ ap (fold act p) (kept (held f k) k (f k) (held_ends f k)).same
      ∙ fold_append act p (acts (held f k)) (one k (f k))
      ∙ ap (λ (x : S). fold act x (one k (f k))) (performed_upto k (omega arith) s)

  -- a step's records leave what its elements leave
  pub same_records : (s : S) → perform_all perform (runs_records load register f n) s ≡ elementwise act f n s
  unfolding runs_records
  same_records s =
      perform_all_append perform (ended_records load register f n) (run_records load register (held f n)) s
      ∙ run_performed n (held f n) (omega arith) (held_open f n) (perform_all perform (ended_records load register f n) s)
      ∙ performed_upto n (omega arith) s

-- ---- the same where an element acts by its outcome

module _ {S : Type 0} (act : ℕ → Outcome → S → S) where
  abbrev by_outcome : S → Act → S
  by_outcome s (meet e b) = act e (Placed b) s
  by_outcome s (give e v) = act e (Filled v) s

  spread_in_order : (first count byte up down : ℕ) (s : S)
      → in_order (λ (i : ℕ) (t : S). act (first + i) (Placed (byte + i * up - i * down)) t) count s ≡ fold by_outcome s (spread first count byte up down)
  unfolding in_order
  spread_in_order first zero byte up down s = sym (spread_none by_outcome first byte up down s)
  spread_in_order first (suc n) byte up down s =
      ap (act (first + n) (Placed (byte + n * up - n * down))) (spread_in_order first n byte up down s)
      ∙ rw (← add-one n) (sym (spread_more by_outcome first n byte up down s))

  pour_in_order : (first count value : ℕ) (s : S)
      → in_order (λ (i : ℕ) (t : S). act (first + i) (Filled value) t) count s ≡ fold by_outcome s (pour first count value)
  unfolding in_order
  pour_in_order first zero value s = sym (pour_none by_outcome first value s)
  pour_in_order first (suc n) value s =
      ap (act (first + n) (Filled value)) (pour_in_order first n value s)
      ∙ rw (← add-one n) (sym (pour_more by_outcome first n value s))

  module _ (skips : (k : ℕ) (s : S) → act k Skipped s ≡ s) (discards : (k : ℕ) (s : S) → act k Discarded s ≡ s) where
    one_acts : (k : ℕ) (o : Outcome) (s : S) → act k o s ≡ fold by_outcome s (one k o)
    unfolding fold
    one_acts k Skipped s = skips k s
    one_acts k (Filled v) s = refl
    one_acts k Discarded s = discards k s
    one_acts k (Placed b) s = refl

    elements_in_order : (f : ℕ → Outcome) (n : ℕ) (s : S) → in_order (λ (k : ℕ) (t : S). act k (f k) t) n s ≡ elementwise by_outcome f n s
    unfolding in_order elementwise
    elements_in_order f zero s = refl
    elements_in_order f (suc n) s =
        ap (act n (f n)) (elements_in_order f n s) ∙ one_acts n (f n) (elementwise by_outcome f n s)

    -- a step's records leave what its elements leave, each acting by its outcome on what the one before left
    pub records_in_order : (perform : Record → S → S) (load : Bool) (register : ℕ) (f : ℕ → Outcome) (n : ℕ)
        → ((first count byte up down : ℕ) (s : S) → perform (moved load register first count byte up down) s ≡ in_order (λ (i : ℕ) (t : S). act (first + i) (Placed (byte + i * up - i * down)) t) count s)
        → ((first count value : ℕ) (s : S) (i : ℕ) → i < n → f i ≡ Filled value → perform (Fill register first count value) s ≡ in_order (λ (i : ℕ) (t : S). act (first + i) (Filled value) t) count s)
        → (s : S) → perform_all perform (runs_records load register f n) s ≡ in_order (λ (k : ℕ) (t : S). act k (f k) t) n s
    records_in_order perform load register f n moves fills s =
        same_records by_outcome perform load register f n
        (λ first count byte up down t. moves first count byte up down t ∙ spread_in_order first count byte up down t)
        (λ first count value t i l e. fills first count value t i l e ∙ pour_in_order first count value t) s
        ∙ sym (elements_in_order f n s)
