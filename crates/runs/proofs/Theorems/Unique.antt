-- The runs that are taken are the list that document 01 gives: there is such a list, and no other.
use Prim.Native.Nat.{ℕ, zero, suc, ◌+◌, ◌≤◌, ◌<◌}
use Rattle.std.specs.Prelude.{◌≡◌, List, [], ◌∷◌, ◌++◌, map}
use Rattle.std.proofs.Math.Path.{refl}
use Rattle.std.proofs.Common.{sym, ap, ap₂, subst, ◌∙◌, append_assoc, append-nil, arith}
use Rattle.numbers.specs.Laws.Choice.{pick_case, by_order}
use Rattle.numbers.specs.Lists.{each}
use Rattle.outcomes.specs.declared.Outcome.{Outcome}
use Rattle.outcomes.specs.declared.Outcome.TheVariants.{Skipped, Filled, Discarded, Placed}
use Rattle.signed.specs.Numbers.{rise, fall, difference}
use Rattle.records.specs.Laws.ByteSteps.{rise_back, fall_back}
use Rattle.runs.specs.declared.Run.{Run}
use Rattle.runs.specs.declared.Run.TheVariants.{Idle, Bytes, Fills}
use Rattle.runs.specs.declared.Progress.{Progress}
use Rattle.runs.specs.Runs.{meet_byte, meet_fill, next, emit, held, ending, ended, runs}
use Rattle.runs.specs.Even.{Stretch, bytes, fills, first_of, count_of, end_of, Silent, Each, EvenBytes, Even, Longest, Gap, Covers, Given}
use Rattle.runs.proofs.Laws.Alike.{alike_byte, alike_step, alike_value, one_sort}
use Rattle.runs.proofs.Theorems.Longest.{Open, LongestRun, AllRuns, none, more, held_open, runs_longest}

-- a stretch as a run: its step, how far up and how far down
abbrev pub run_of : Stretch → Run
run_of (bytes first count byte step) = Bytes first count byte (rise step) (fall step)
run_of (fills first count value) = Fills first count value

-- and back
abbrev pub stretch_of : Run → List Stretch
stretch_of Idle = []
stretch_of (Bytes first count byte up down) = bytes first count byte (difference up down) ∷ []
stretch_of (Fills first count value) = fills first count value ∷ []

abbrev pub stretches : List Run → List Stretch
stretches [] = []
stretches (r ∷ rs) = stretch_of r ++ stretches rs

stretches_append : (rs qs : List Run) → stretches (rs ++ qs) ≡ stretches rs ++ stretches qs
stretches_append [] qs = refl
stretches_append (r ∷ rs) qs = rw (stretches_append rs qs, append_assoc)

stretches_emit : (r : Run) → stretches (emit r) ≡ stretch_of r
stretches_emit Idle = refl
stretches_emit (Bytes e m b u d) = refl
stretches_emit (Fills e m v) = refl

-- ---- the runs that are taken are such a list

-- where the open run begins, or would
abbrev start : Run → ℕ → ℕ
start Idle k = k
start (Bytes e m b u d) k = e
start (Fills e m v) k = e

module _ (f : ℕ → Outcome) where
  no_gap : (a : ℕ) → Gap f a a
  no_gap a = record { order = omega arith; silent = λ i p q. absurd (omega arith) }

  one_gap : (k : ℕ) → Silent (f k) → Gap f k (suc k)
  one_gap k h = record { order = omega arith; silent = λ i p q. let z : k ≡ i = omega arith in subst (λ (x : ℕ). Silent (f x)) z h }

  joined_gap : {a b c : ℕ} → Gap f a b → Gap f b c → Gap f a c
  joined_gap {b = b} p q =
      record { order = omega (arith, p.order, q.order); silent = λ i g h. by_order i b (λ w. p.silent i g w) (λ w. q.silent i w h) }

  covers_gap : {b c : ℕ} (a : ℕ) (rs : List Stretch) → Covers f a b rs → Gap f b c → Covers f a c rs
  covers_gap a [] p q = joined_gap p q
  covers_gap a (r ∷ rs) p q = (p.0, covers_gap (end_of r) rs p.1 q)

  covers_run : (a : ℕ) (rs : List Stretch) (r : Stretch) → Covers f a (first_of r) rs → Covers f a (end_of r) (rs ++ (r ∷ []))
  covers_run a [] r p = (p, no_gap (end_of r))
  covers_run a (q ∷ qs) r p = (p.0, covers_run (end_of q) qs r p.1)

  -- the open run goes on
  goes_on : (a : ℕ) (rs : List Stretch) → Covers f 0 a rs → Covers f 0 a (rs ++ [])
  goes_on a rs p = rw append-nil p

  -- the open run ends before element k
  ends : (k : ℕ) (r : Run) (rs : List Stretch) → Open f k r → Covers f 0 (start r k) rs → Covers f 0 k (rs ++ stretch_of r)
  ends k Idle rs g p = goes_on k rs p
  ends k (Bytes e m b u d) rs g p =
      subst (λ (x : ℕ). Covers f 0 x (rs ++ stretch_of (Bytes e m b u d))) g.ends (covers_run 0 rs (bytes e m b (difference u d)) p)
  ends k (Fills e m v) rs g p =
      subst (λ (x : ℕ). Covers f 0 x (rs ++ stretch_of (Fills e m v))) g.ends (covers_run 0 rs (fills e m v) p)

  -- what is done is covered up to where the open run begins
  abbrev Covered : ℕ → List Stretch → Progress → Type 0
  Covered k rs t = Covers f 0 (start t.held (suc k)) (rs ++ stretch_of t.done)

  covered : (k : ℕ) (r : Run) (o : Outcome) (rs : List Stretch) → Open f k r → f k ≡ o → Covers f 0 (start r k) rs → Covered k rs (next r k o)
  unfolding next meet_byte meet_fill
  covered k r Skipped rs g q p = covers_gap 0 (rs ++ stretch_of r) (ends k r rs g p) (one_gap k (subst Silent (sym q) tt))
  covered k r Discarded rs g q p = covers_gap 0 (rs ++ stretch_of r) (ends k r rs g p) (one_gap k (subst Silent (sym q) tt))
  covered k Idle (Placed x) rs g q p = goes_on k rs p
  covered k (Fills e m v) (Placed x) rs g q p = ends k (Fills e m v) rs g p
  covered k (Bytes e m b u d) (Placed x) rs g q p =
      pick_case (Covered k rs) _ _ _ (λ h. goes_on e rs p)
      (λ h. pick_case (Covered k rs) _ _ _ (λ s. goes_on e rs p) (λ s. ends k (Bytes e m b u d) rs g p))
  covered k Idle (Filled x) rs g q p = goes_on k rs p
  covered k (Bytes e m b u d) (Filled x) rs g q p = ends k (Bytes e m b u d) rs g p
  covered k (Fills e m v) (Filled x) rs g q p =
      pick_case (Covered k rs) _ _ _ (λ h. goes_on e rs p) (λ h. ends k (Fills e m v) rs g p)

  covered_upto : (k : ℕ) → Covers f 0 (start (held f k) k) (stretches (ended f k))
  unfolding held each
  covered_upto zero = no_gap 0
  covered_upto (suc k) =
      rw (stretches_append (ended f k) (emit (ending f k)), stretches_emit (ending f k))
      (covered k (held f k) (f k) (stretches (ended f k)) (held_open f k) refl (covered_upto k))

  module _ (n : ℕ) where
    runs_cover : Covers f 0 n (stretches (runs f n))
    unfolding runs
    runs_cover =
        rw (stretches_append (ended f n) (emit (held f n)), stretches_emit (held f n))
        (ends n (held f n) (stretches (ended f n)) (held_open f n) (covered_upto n))

    all_longest : {rs : List Run} → AllRuns (LongestRun f n) rs → Each (Longest f n) (stretches rs)
    all_longest none = tt
    all_longest (more {r = Idle} h hs) = absurd h
    all_longest (more {r = Bytes e m b u d} h hs) = (h.longest, all_longest hs)
    all_longest (more {r = Fills e m v} h hs) = (h, all_longest hs)

    -- there is such a list: that of the runs that are taken
    pub runs_given : Given f n (stretches (runs f n))
    runs_given = record { covers = runs_cover; longest = all_longest (runs_longest f n) }

    back : {rs : List Run} → AllRuns (LongestRun f n) rs → rs ≡ map run_of (stretches rs)
    back none = refl
    back (more {r = Idle} h hs) = absurd h
    back (more {r = Bytes e m b u d} h hs) = rw (rise_back u d h.way, fall_back u d h.way) (ap (λ (l : List Run). Bytes e m b u d ∷ l) (back hs))
    back (more {r = Fills e m v} h hs) = ap (λ (l : List Run). Fills e m v ∷ l) (back hs)

-- ---- there is no other

module _ (f : ℕ → Outcome) (n : ℕ) where
  -- the first element of an even run is not silent
  not_silent : (r : Stretch) → Even f n r → Silent (f (first_of r)) → ⊥
  not_silent (bytes e m b s) p h = let z : e + 0 ≡ e = omega arith in subst Silent (ap f (sym z) ∙ (p.at 0 p.some).placed) h
  not_silent (fills e m v) p h = let z : e + 0 ≡ e = omega arith in subst Silent (ap f (sym z) ∙ p.at 0 p.some) h

  -- so no gap reaches past it
  gap_before : {a b : ℕ} (r : Stretch) → Even f n r → a ≤ first_of r → Gap f a b → b ≤ first_of r
  gap_before {a} {b} r p h g = by_order (first_of r) b (λ w. absurd (not_silent r p (g.silent (first_of r) h w))) (λ w. w)

  some_within : (r : Stretch) → Even f n r → first_of r < n
  some_within (bytes e m b s) p = omega (arith, p.some, p.within)
  some_within (fills e m v) p = omega (arith, p.some, p.within)

  -- even runs of as many elements from one element are the same
  even_once : (r q : Stretch) → Even f n r → Even f n q → first_of r ≡ first_of q → count_of r ≡ count_of q → r ≡ q
  even_once (bytes e m b s) (bytes e₁ l c t) p q z w =
      let r : EvenBytes f n e₁ m b s = rw z at p in
      let step = by_order 1 l (λ h. alike_step f r q (omega arith) h) (λ h. p.lone (omega (arith, q.some)) ∙ sym (q.lone (omega (arith, q.some)))) in
      rw (z, w, alike_byte f r q, step)
  even_once (bytes e m b s) (fills e₁ l v) p q z w = absurd (one_sort f (rw z at p) q)
  even_once (fills e m v) (bytes e₁ l c t) p q z w = absurd (one_sort f q (rw z at p))
  even_once (fills e m v) (fills e₁ l x) p q z w = rw (z, w, alike_value f {e = e₁} (rw z at p) q)

  longest_once : (r q : Stretch) → Longest f n r → Longest f n q → first_of r ≡ first_of q → r ≡ q
  longest_once r q p h z =
      even_once r q p.even h.even z (omega (arith, p.most q h.even (sym z), h.most r p.even z))

  -- from element a on
  same_runs : (a : ℕ) (rs qs : List Stretch) → Covers f a n rs → Covers f a n qs → Each (Longest f n) rs → Each (Longest f n) qs → rs ≡ qs
  same_runs a [] [] p q g h = refl
  same_runs a [] (x ∷ qs) p q g h = absurd (omega (arith, gap_before x h.0.even q.0.order p, some_within x h.0.even))
  same_runs a (r ∷ rs) [] p q g h = absurd (omega (arith, gap_before r g.0.even p.0.order q, some_within r g.0.even))
  same_runs a (r ∷ rs) (x ∷ qs) p q g h =
      let z : first_of r ≡ first_of x = omega (arith, gap_before x h.0.even q.0.order p.0, gap_before r g.0.even p.0.order q.0) in
      let e = longest_once r x g.0 h.0 z in
      ap₂ (λ (y : Stretch) (l : List Stretch). y ∷ l) e
      (same_runs (end_of x) rs qs (subst (λ (y : Stretch). Covers f (end_of y) n rs) e p.1) q.1 g.1 h.1)

  -- document 01 gives one list
  pub given_once : (rs qs : List Stretch) → Given f n rs → Given f n qs → rs ≡ qs
  given_once rs qs p q = same_runs 0 rs qs p.covers q.covers p.longest q.longest

  -- and it is the one that is taken
  pub runs_only : (rs : List Stretch) → Given f n rs → runs f n ≡ map run_of rs
  runs_only rs p = back f n (runs_longest f n) ∙ ap (map run_of) (given_once (stretches (runs f n)) rs (runs_given f n) p)
