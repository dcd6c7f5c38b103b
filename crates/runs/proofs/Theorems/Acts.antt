-- The runs of a step stand for each placed and filled element, in order, once.
use Rattle.std.specs.Prelude.{ℕ, zero, suc, ◌+◌, ◌*◌, ◌-◌, ◌≡◌, refl, List, [], ◌∷◌, ◌++◌, eqb}
use Rattle.std.proofs.Common.{ap, append_assoc, append-nil, add-one, arith, eqb-true}
use Rattle.numbers.specs.Laws.Choice.{pick_case}
use Rattle.numbers.specs.Lists.{each}
use Rattle.outcomes.specs.declared.Outcome.{Outcome}
use Rattle.outcomes.specs.declared.Outcome.TheVariants.{Skipped, Filled, Discarded, Placed}
use Rattle.runs.specs.declared.Run.{Run}
use Rattle.runs.specs.declared.Run.TheVariants.{Idle, Bytes, Fills}
use Rattle.runs.specs.declared.Progress.{Progress}
use Rattle.runs.specs.Runs.{meet_byte, meet_fill, next, emit, held, ended, runs}
use Rattle.runs.specs.Acts.{Act, meet, give, one, spread, pour, acts, acts_all}

-- ---- the open run, one element more

-- an open run ends just before element k
abbrev pub Ends : Run → ℕ → Type 0
Ends Idle k = Unit {0}
Ends (Bytes first count byte up down) k = first + count ≡ k
Ends (Fills first count value) k = first + count ≡ k

lone_acts : (k b : ℕ) → spread k 1 b 0 0 ≡ meet k b ∷ []
unfolding spread each
lone_acts k b =
    let p : k + 0 ≡ k = omega arith in
    let q : b + 0 - 0 ≡ b = omega arith in
    rw (p, q)

second : (f n k a b u d : ℕ) → f + n ≡ k → n ≡ 1 → spread f 2 a (b - a) (a - b) ≡ spread f n a u d ++ (meet k b ∷ [])
unfolding spread each
second f n k a b u d e h =
    let g : f + 1 ≡ k = omega arith in
    let p : a + 0 * (b - a) - 0 * (a - b) ≡ a = omega arith in
    let q : a + 1 * (b - a) - 1 * (a - b) ≡ b = omega arith in
    let t : a + 0 * u - 0 * d ≡ a = omega arith in
    rw (h, g, p, q, t)

same_step : (f n k a b u d : ℕ) → f + n ≡ k → b + n * d ≡ a + n * u → spread f (n + 1) a u d ≡ spread f n a u d ++ (meet k b ∷ [])
unfolding spread each
same_step f n k a b u d e h =
    let p : a + n * u - n * d ≡ b = omega arith in
    rw (add-one, e, p)

sole : (k v : ℕ) → pour k 1 v ≡ give k v ∷ []
unfolding pour each
sole k v = let p : k + 0 ≡ k = omega arith in rw p

same_bits : (f n k v w : ℕ) → f + n ≡ k → v ≡ w → pour f (n + 1) w ≡ pour f n w ++ (give k v ∷ [])
unfolding pour each
same_bits f n k v w e h = rw (add-one, e, h)

-- what one turn keeps
pub record Kept (r : Run) (k : ℕ) (o : Outcome) (t : Progress) : Type 0 where
  pub same : acts t.done ++ acts t.held ≡ acts r ++ one k o
  pub ends : Ends t.held (suc k)

byte_kept : (f n a u d k b : ℕ) → f + n ≡ k → Kept (Bytes f n a u d) k (Placed b) (meet_byte f n a u d k b)
unfolding meet_byte
byte_kept f n a u d k b e =
    pick_case (Kept (Bytes f n a u d) k (Placed b)) (eqb n 1) _ _
    (λ h. record { same = second f n k a b u d e (eqb-true n 1 h); ends = omega (arith, eqb-true n 1 h) })
    (λ h. pick_case (Kept (Bytes f n a u d) k (Placed b)) (eqb (b + n * d) (a + n * u)) _ _
    (λ g. record { same = same_step f n k a b u d e (eqb-true _ _ g); ends = omega arith })
    (λ g. record { same = rw lone_acts; ends = omega arith }))

fill_kept : (f n w k v : ℕ) → f + n ≡ k → Kept (Fills f n w) k (Filled v) (meet_fill f n w k v)
unfolding meet_fill
fill_kept f n w k v e =
    pick_case (Kept (Fills f n w) k (Filled v)) (eqb v w) _ _
    (λ h. record { same = same_bits f n k v w e (eqb-true v w h); ends = omega arith })
    (λ h. record { same = rw sole; ends = omega arith })

pub kept : (r : Run) (k : ℕ) (o : Outcome) → Ends r k → Kept r k o (next r k o)
unfolding next
kept Idle k Skipped e = record { same = refl; ends = tt }
kept (Bytes f n a u d) k Skipped e = record { same = refl; ends = tt }
kept (Fills f n v) k Skipped e = record { same = refl; ends = tt }
kept Idle k Discarded e = record { same = refl; ends = tt }
kept (Bytes f n a u d) k Discarded e = record { same = refl; ends = tt }
kept (Fills f n v) k Discarded e = record { same = refl; ends = tt }
kept Idle k (Placed b) e = record { same = lone_acts k b; ends = omega arith }
kept (Fills f n v) k (Placed b) e = record { same = rw lone_acts; ends = omega arith }
kept (Bytes f n a u d) k (Placed b) e = byte_kept f n a u d k b e
kept Idle k (Filled v) e = record { same = sole k v; ends = omega arith }
kept (Bytes f n a u d) k (Filled v) e = record { same = rw sole; ends = omega arith }
kept (Fills f n w) k (Filled v) e = fill_kept f n w k v e

pub held_ends : (f : ℕ → Outcome) (k : ℕ) → Ends (held f k) k
unfolding held
held_ends f zero = tt
held_ends f (suc k) = (kept (held f k) k (f k) (held_ends f k)).ends

-- ---- all runs

acts_append : (xs ys : List Run) → acts_all (xs ++ ys) ≡ acts_all xs ++ acts_all ys
unfolding acts_all
acts_append [] ys = refl
acts_append (x ∷ xs) ys = rw (acts_append xs ys, append_assoc)

acts_emit : (r : Run) → acts_all (emit r) ≡ acts r
unfolding acts_all
acts_emit Idle = refl
acts_emit (Bytes f n b u d) = append-nil (spread f n b u d)
acts_emit (Fills f n v) = append-nil (pour f n v)

-- the runs that are done and the open one stand for the first k elements
acts_upto : (f : ℕ → Outcome) (k : ℕ) → acts_all (ended f k) ++ acts (held f k) ≡ each k (λ (i : ℕ). one i (f i))
unfolding held each acts_all
acts_upto f zero = refl
acts_upto f (suc k) =
    let done = ended f k in
    let t = next (held f k) k (f k) in
    rw (acts_append done (emit t.done), acts_emit t.done, append_assoc, (kept (held f k) k (f k) (held_ends f k)).same, ← append_assoc (acts_all done) (acts (held f k)) (one k (f k)))
    (ap (λ (l : List Act). l ++ one k (f k)) (acts_upto f k))

-- the acts of the runs, in order, are the placed and filled elements, in order, each once
pub runs_acts : (f : ℕ → Outcome) (n : ℕ) → acts_all (runs f n) ≡ each n (λ (i : ℕ). one i (f i))
unfolding runs
runs_acts f n =
    let done = ended f n in
    rw (acts_append done (emit (held f n)), acts_emit (held f n)) (acts_upto f n)
