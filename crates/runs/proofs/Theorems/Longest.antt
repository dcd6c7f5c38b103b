-- Each run taken is the longest even run from its first element.
use Prim.Native.Nat.{ℕ, zero, suc, ◌+◌, ◌*◌, ◌-◌, ◌≤◌, ◌<◌, min}
use Rattle.std.specs.Prelude.{◌≡◌, refl, Bool, true, false, List, [], ◌∷◌, ◌++◌, eqb, ℤ}
use Rattle.std.proofs.Common.{sym, subst, ◌∙◌, true≢false, arith}
use Rattle.std.proofs.Math.Path.{ap}
use borrow.Author.Tests.{eqb-true, eqb-false}
use Rattle.numbers.specs.Laws.Choice.{pick_case, by_order}
use Rattle.numbers.specs.Lists.{each}
use Rattle.outcomes.specs.declared.Outcome.{Outcome}
use Rattle.outcomes.specs.declared.Outcome.TheVariants.{Skipped, Filled, Discarded, Placed}
use Rattle.signed.specs.Numbers.{difference}
use Rattle.records.specs.Laws.ByteSteps.{at_step_lem, step_at_lem}
use Rattle.runs.specs.declared.Run.{Run}
use Rattle.runs.specs.declared.Run.TheVariants.{Idle, Bytes, Fills}
use Rattle.runs.specs.declared.Progress.{Progress}
use Rattle.runs.specs.Runs.{meet_byte, meet_fill, next, emit, held, ending, ended, runs}
use Rattle.runs.specs.Even.{Stretch, bytes, fills, first_of, count_of, EvenBytes, EvenFills, Even, Longest}
use Rattle.runs.proofs.Laws.Alike.{same_byte, same_value, alike_byte, alike_step, alike_value, one_sort}

-- a run of bytes that is taken, its step as an integer; up - down goes one way
pub record LongestBytes (f : ℕ → Outcome) (n e m b u d : ℕ) : Type 0 where
  pub longest : Longest f n (bytes e m b (difference u d))
  pub way : min u d ≡ 0

abbrev pub LongestRun : (ℕ → Outcome) → ℕ → Run → Type 0
LongestRun f n Idle = ⊥
LongestRun f n (Bytes e m b u d) = LongestBytes f n e m b u d
LongestRun f n (Fills e m v) = Longest f n (fills e m v)

pub data AllRuns (P : Run → Type 0) : List Run → Type 0 where
  none : AllRuns P []
  more : {r : Run} {rs : List Run} → P r → AllRuns P rs → AllRuns P (r ∷ rs)

-- ---- what is known of the open run before element k

pub record Going (f : ℕ → Outcome) (k e m b u d : ℕ) : Type 0 where
  pub ends : e + m ≡ k
  pub some : 1 ≤ m
  pub low : (i : ℕ) → i < m → i * d ≤ b + i * u
  pub at : (i : ℕ) → i < m → f (e + i) ≡ Placed (b + i * u - i * d)
  pub lone : m ≡ 1 → (u ≡ 0) × (d ≡ 0)
  pub way : min u d ≡ 0

pub record Pouring (f : ℕ → Outcome) (k e m v : ℕ) : Type 0 where
  pub ends : e + m ≡ k
  pub some : 1 ≤ m
  pub at : (i : ℕ) → i < m → f (e + i) ≡ Filled v

abbrev pub Open : (ℕ → Outcome) → ℕ → Run → Type 0
Open f k Idle = Unit {0}
Open f k (Bytes e m b u d) = Going f k e m b u d
Open f k (Fills e m v) = Pouring f k e m v

module _ (f : ℕ → Outcome) where
  even_bytes : {k e m b u d : ℕ} (n : ℕ) → k ≤ n → Going f k e m b u d → EvenBytes f n e m b (difference u d)
  unfolding difference
  even_bytes {k} {e} {m} {b} {u} {d} n h g =
      record {
        some = g.some;
        within = omega (arith, g.ends);
        at = λ i l. record { byte = b + i * u - i * d; placed = g.at i l; same = at_step_lem b u d i (b + i * u - i * d) (omega (arith, g.low i l)) };
        lone = λ z. rw ((g.lone z).0, (g.lone z).1);
      }

  -- a run of bytes is the longest if the next element, where it has a byte, does not go on at the same step
  longest_bytes : {k e m b u d : ℕ} (n : ℕ) → k ≤ n → Going f k e m b u d
      → (k < n → (x : ℕ) → f k ≡ Placed x → (2 ≤ m) × (x + m * d ≡ b + m * u → ⊥))
      → LongestBytes f n e m b u d
  longest_bytes {k} {e} {m} {b} {u} {d} n h g stops = record { longest = record { even = even; most = most }; way = g.way }
    where
      even : EvenBytes f n e m b (difference u d)
      even = even_bytes n h g

      too_long : (l c : ℕ) (t : ℤ) → EvenBytes f n e l c t → m < l → ⊥
      too_long l c t q w =
          let here = q.at m w in
          let no = stops (omega (arith, g.ends, q.within)) here.byte (ap f (sym g.ends) ∙ here.placed) in
          let z = rw (alike_byte f q even, alike_step f q even (omega (arith, no.0)) no.0) at here.same in
          no.1 (step_at_lem b u d m here.byte z)

      most : (q : Stretch) → Even f n q → first_of q ≡ e → count_of q ≤ m
      most (bytes e₁ l c t) q z = by_order m l (λ w. absurd (too_long l c t (rw z at q) w)) (λ w. w)
      most (fills e₁ l v) q z = absurd (one_sort f even (rw z at q))

  longest_fills : {k e m v : ℕ} (n : ℕ) → k ≤ n → Pouring f k e m v → (k < n → f k ≡ Filled v → ⊥) → Longest f n (fills e m v)
  longest_fills {k} {e} {m} {v} n h g stops = record { even = even; most = most }
    where
      even : EvenFills f n e m v
      even = record { some = g.some; within = omega (arith, g.ends); at = g.at }

      too_long : (l w : ℕ) → EvenFills f n e l w → m < l → ⊥
      too_long l w q z =
          stops (omega (arith, g.ends, q.within)) (ap f (sym g.ends) ∙ q.at m z ∙ ap Filled (alike_value f q even))

      most : (q : Stretch) → Even f n q → first_of q ≡ e → count_of q ≤ m
      most (bytes e₁ l c t) q z = absurd (one_sort f (rw z at q) even)
      most (fills e₁ l w) q z = by_order m l (λ y. absurd (too_long l w (rw z at q) y)) (λ y. y)

  -- ---- one element more

  abbrev Done : ℕ → Run → Type 0
  Done n Idle = Unit {0}
  Done n (Bytes e m b u d) = LongestBytes f n e m b u d
  Done n (Fills e m v) = Longest f n (fills e m v)

  record Turned (n k : ℕ) (t : Progress) : Type 0 where
    was : Open f k t.done
    done : Done n t.done
    held : Open f (suc k) t.held

  at_first : {k x : ℕ} {o : Outcome} → f k ≡ o → x ≡ 0 → f (k + x) ≡ o
  at_first {k} {x} e h = let z : k + x ≡ k = omega arith in rw z e

  lone_going : (k b : ℕ) → f k ≡ Placed b → Going f (suc k) k 1 b 0 0
  lone_going k b e =
      record {
        ends = omega arith;
        some = omega arith;
        low = λ i l. omega arith;
        at = λ i l. let z : b + i * 0 - i * 0 ≡ b = omega arith in rw z (at_first e (omega arith));
        lone = λ q. (refl, refl);
        way = refl;
      }

  sole_pouring : (k v : ℕ) → f k ≡ Filled v → Pouring f (suc k) k 1 v
  sole_pouring k v e = record { ends = omega arith; some = omega arith; at = λ i l. at_first e (omega arith) }

  -- what holds of each of m elements, and of the next
  one_more : (P : ℕ → Type 0) (m : ℕ) → ((i : ℕ) → i < m → P i) → P m → (i : ℕ) → i < m + 1 → P i
  one_more P m p q i l =
      by_order i m (λ h. p i h) (λ h. subst P (omega arith) q)

  second_going : {k e m b u d : ℕ} (x : ℕ) → Going f k e m b u d → m ≡ 1 → f k ≡ Placed x → Going f (suc k) e 2 b (x - b) (b - x)
  second_going {k} {e} {m} {b} {u} {d} x g h q =
      record {
        ends = omega (arith, g.ends);
        some = omega arith;
        low = low;
        at = at;
        lone = λ z. absurd (omega arith);
        way = omega arith;
      }
    where
      low : (i : ℕ) → i < 2 → i * (b - x) ≤ b + i * (x - b)
      low zero l = omega arith
      low (suc zero) l = omega arith
      low (suc (suc i)) l = absurd (omega arith)

      at : (i : ℕ) → i < 2 → f (e + i) ≡ Placed (b + i * (x - b) - i * (b - x))
      at zero l =
          let p : b + 0 * u - 0 * d ≡ b + 0 * (x - b) - 0 * (b - x) = omega arith in
          g.at 0 (omega arith) ∙ ap Placed p
      at (suc zero) l =
          let p : e + 1 ≡ k = omega (arith, g.ends) in
          let r : x ≡ b + 1 * (x - b) - 1 * (b - x) = omega arith in
          ap f p ∙ q ∙ ap Placed r
      at (suc (suc i)) l = absurd (omega arith)

  more_going : {k e m b u d : ℕ} (x : ℕ) → Going f k e m b u d → (m ≡ 1 → ⊥) → x + m * d ≡ b + m * u → f k ≡ Placed x → Going f (suc k) e (m + 1) b u d
  more_going {k} {e} {m} {b} {u} {d} x g o h q =
      let r : x ≡ b + m * u - m * d = omega arith in
      record {
        ends = omega (arith, g.ends);
        some = omega arith;
        low = one_more (λ (i : ℕ). i * d ≤ b + i * u) m g.low (omega arith);
        at = one_more (λ (i : ℕ). f (e + i) ≡ Placed (b + i * u - i * d)) m g.at (ap f g.ends ∙ q ∙ ap Placed r);
        lone = λ z. absurd (omega (arith, g.some));
        way = g.way;
      }

  more_pouring : {k e m v : ℕ} → Pouring f k e m v → f k ≡ Filled v → Pouring f (suc k) e (m + 1) v
  more_pouring {k} {e} {m} {v} g q =
      record { ends = omega (arith, g.ends); some = omega arith; at = one_more (λ (i : ℕ). f (e + i) ≡ Filled v) m g.at (ap f g.ends ∙ q) }

  -- the next element is of another sort
  abbrev placed : Outcome → Bool
  placed Skipped = false
  placed (Filled v) = false
  placed Discarded = false
  placed (Placed b) = true

  abbrev filled : Outcome → Bool
  filled Skipped = false
  filled (Filled v) = true
  filled Discarded = false
  filled (Placed b) = false

  ends_bytes : {k e m b u d : ℕ} (n : ℕ) (o : Outcome) → k < n → Going f k e m b u d → f k ≡ o → placed o ≡ false → LongestBytes f n e m b u d
  ends_bytes n o l g q z = longest_bytes n (omega arith) g (λ h x p. absurd (true≢false (ap placed (sym p ∙ q) ∙ z)))

  ends_fills : {k e m v : ℕ} (n : ℕ) (o : Outcome) → k < n → Pouring f k e m v → f k ≡ o → filled o ≡ false → Longest f n (fills e m v)
  ends_fills n o l g q z = longest_fills n (omega arith) g (λ h p. true≢false (ap filled (sym p ∙ q) ∙ z))

  byte_turned : (n k e m b u d x : ℕ) → k < n → Going f k e m b u d → f k ≡ Placed x → Turned n k (meet_byte e m b u d k x)
  unfolding meet_byte
  byte_turned n k e m b u d x l g q =
      pick_case (Turned n k) (eqb m 1) _ _
      (λ h. record { was = tt; done = tt; held = second_going x g (eqb-true m 1 h) q })
      (λ h. pick_case (Turned n k) (eqb (x + m * d) (b + m * u)) _ _
      (λ s. record { was = tt; done = tt; held = more_going x g (eqb-false m 1 h) (eqb-true _ _ s) q })
      (λ s. record {
        was = g;
        done =
            longest_bytes n (omega arith) g
            (λ t y p. let z : y ≡ x = same_byte p q in let o : m ≡ 1 → ⊥ = eqb-false m 1 h in (omega (arith, g.some), λ w. eqb-false _ _ s (rw z at w)));
        held = lone_going k x q;
      }))

  fill_turned : (n k e m v x : ℕ) → k < n → Pouring f k e m v → f k ≡ Filled x → Turned n k (meet_fill e m v k x)
  unfolding meet_fill
  fill_turned n k e m v x l g q =
      pick_case (Turned n k) (eqb x v) _ _
      (λ h. record { was = tt; done = tt; held = more_pouring g (q ∙ ap Filled (eqb-true x v h)) })
      (λ h. record {
        was = g;
        done = longest_fills n (omega arith) g (λ t p. eqb-false x v h (same_value q p));
        held = sole_pouring k x q;
      })

  turned : (n k : ℕ) (r : Run) (o : Outcome) → k < n → Open f k r → f k ≡ o → Turned n k (next r k o)
  unfolding next
  turned n k Idle Skipped l g q = record { was = tt; done = tt; held = tt }
  turned n k (Bytes e m b u d) Skipped l g q = record { was = g; done = ends_bytes n Skipped l g q refl; held = tt }
  turned n k (Fills e m v) Skipped l g q = record { was = g; done = ends_fills n Skipped l g q refl; held = tt }
  turned n k Idle Discarded l g q = record { was = tt; done = tt; held = tt }
  turned n k (Bytes e m b u d) Discarded l g q = record { was = g; done = ends_bytes n Discarded l g q refl; held = tt }
  turned n k (Fills e m v) Discarded l g q = record { was = g; done = ends_fills n Discarded l g q refl; held = tt }
  turned n k Idle (Placed x) l g q = record { was = tt; done = tt; held = lone_going k x q }
  turned n k (Fills e m v) (Placed x) l g q = record { was = g; done = ends_fills n (Placed x) l g q refl; held = lone_going k x q }
  turned n k (Bytes e m b u d) (Placed x) l g q = byte_turned n k e m b u d x l g q
  turned n k Idle (Filled x) l g q = record { was = tt; done = tt; held = sole_pouring k x q }
  turned n k (Bytes e m b u d) (Filled x) l g q = record { was = g; done = ends_bytes n (Filled x) l g q refl; held = sole_pouring k x q }
  turned n k (Fills e m v) (Filled x) l g q = fill_turned n k e m v x l g q

  pub held_open : (k : ℕ) → Open f k (held f k)
  unfolding held
  held_open zero = tt
  held_open (suc k) = (turned (suc k) k (held f k) (f k) (omega arith) (held_open k) refl).held

  pub ending_open : (k : ℕ) → Open f k (ending f k)
  ending_open k = (turned (suc k) k (held f k) (f k) (omega arith) (held_open k) refl).was

  -- ---- all runs

  all_append : {P : Run → Type 0} {xs ys : List Run} → AllRuns P xs → AllRuns P ys → AllRuns P (xs ++ ys)
  all_append none q = q
  all_append (more p ps) q = more p (all_append ps q)

  emitted : (n : ℕ) (r : Run) → Done n r → AllRuns (LongestRun f n) (emit r)
  emitted n Idle h = none
  emitted n (Bytes e m b u d) h = more h none
  emitted n (Fills e m v) h = more h none

  ended_longest : (n k : ℕ) → k ≤ n → AllRuns (LongestRun f n) (ended f k)
  unfolding each
  ended_longest n zero h = none
  ended_longest n (suc k) h =
      all_append (ended_longest n k (omega arith))
      (emitted n (ending f k) (turned n k (held f k) (f k) h (held_open k) refl).done)

  -- at the end there is no next element
  last_longest : (n : ℕ) (r : Run) → Open f n r → Done n r
  last_longest n Idle g = tt
  last_longest n (Bytes e m b u d) g = longest_bytes n (omega arith) g (λ h. absurd (omega arith))
  last_longest n (Fills e m v) g = longest_fills n (omega arith) g (λ h. absurd (omega arith))

  -- each run of the first n elements is the longest even run from its first element
  pub runs_longest : (n : ℕ) → AllRuns (LongestRun f n) (runs f n)
  unfolding runs
  runs_longest n = all_append (ended_longest n n (omega arith)) (emitted n (held f n) (last_longest n (held f n) (held_open n)))
