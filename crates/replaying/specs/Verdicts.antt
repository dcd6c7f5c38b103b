-- Two lists of events beside each other: what the rules expect, and what a trace says.
use Rattle.std.specs.Prelude.{ℕ, suc, ◌≡◌, List, [], ◌∷◌, eqb, length, take}
use Rattle.numbers.specs.Choice.{pick, both}
use Rattle.traces.specs.Events.{same_event}
use Rattle.traces.specs.declared.Event.{Event}
use Rattle.replaying.specs.declared.Verdict.{Verdict}
use Rattle.replaying.specs.declared.Verdict.TheVariants.{Agrees, Differs}

-- how many events they have in common from the beginning on
unfoldable pub common : List Event → List Event → ℕ
common [] ys = 0
common (x ∷ xs) [] = 0
common (x ∷ xs) (y ∷ ys) = pick (same_event x y) (suc (common xs ys)) 0

-- of n and m events the first i are in common: the lists agree where both end there, else they differ there, a missing or an extra event included
unfoldable pub verdict_at : ℕ → ℕ → ℕ → Verdict
verdict_at i n m = pick (both (eqb i n) (eqb i m)) Agrees (Differs i)

abbrev pub verdict_of : List Event → List Event → Verdict
verdict_of xs ys = verdict_at (common xs ys) (length xs) (length ys)

-- i is the length of the longest common beginning: past it one list ends, or both go on with different events
pub record FirstDifference (i : ℕ) (xs ys : List Event) : Type 0 where
  pub same : take i xs ≡ take i ys
  pub other : take (suc i) xs ≡ take (suc i) ys → ⊥
