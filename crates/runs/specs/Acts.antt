-- What runs stand for: each placed and filled element, in order, once.
use Rattle.std.specs.Prelude.{ℕ, ◌+◌, ◌*◌, ◌-◌, List, [], ◌∷◌, ◌++◌}
use Rattle.numbers.specs.Lists.{each}
use Rattle.outcomes.specs.declared.Outcome.{Outcome}
use Rattle.outcomes.specs.declared.Outcome.TheVariants.{Skipped, Filled, Discarded, Placed}
use Rattle.runs.specs.declared.Run.{Run}
use Rattle.runs.specs.declared.Run.TheVariants.{Idle, Bytes, Fills}

-- one element meets its byte, or is given bits
pub data Act : Type 0 where
  meet : ℕ → ℕ → Act
  give : ℕ → ℕ → Act

-- what the outcome of element k stands for
abbrev pub one : ℕ → Outcome → List Act
one k Skipped = []
one k (Filled v) = give k v ∷ []
one k Discarded = []
one k (Placed b) = meet k b ∷ []

-- element first + i is at byte + i * step, for i below count
unfoldable pub spread : ℕ → ℕ → ℕ → ℕ → ℕ → List Act
spread first count byte up down = each count (λ (i : ℕ). meet (first + i) (byte + i * up - i * down) ∷ [])

-- element first + i has the value's bits
unfoldable pub pour : ℕ → ℕ → ℕ → List Act
pour first count value = each count (λ (i : ℕ). give (first + i) value ∷ [])

abbrev pub acts : Run → List Act
acts Idle = []
acts (Bytes first count byte up down) = spread first count byte up down
acts (Fills first count value) = pour first count value

unfoldable pub acts_all : List Run → List Act
acts_all [] = []
acts_all (r ∷ rs) = acts r ++ acts_all rs
