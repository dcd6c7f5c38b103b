-- The list of runs that document 01 gives, in its own words. It is one list, and the one that is written: specs/Unique.antt.
use Rattle.std.specs.Prelude.{ℕ, ◌+◌, ◌≤◌, ◌<◌, ◌≡◌, List, [], ◌∷◌, ℤ, pos}
use Rattle.outcomes.specs.declared.Outcome.{Outcome}
use Rattle.outcomes.specs.declared.Outcome.TheVariants.{Skipped, Filled, Discarded, Placed}
use Rattle.records.specs.Records.{even_byte}

-- `count` elements from element `first` on: at the bytes byte+i*step, or with the value's bits
pub data Stretch : Type 0 where
  bytes : (first count byte : ℕ) (step : ℤ) → Stretch
  fills : (first count value : ℕ) → Stretch

abbrev pub first_of : Stretch → ℕ
first_of (bytes first count byte step) = first
first_of (fills first count value) = first

abbrev pub count_of : Stretch → ℕ
count_of (bytes first count byte step) = count
count_of (fills first count value) = count

-- the element after the last one
abbrev pub end_of : Stretch → ℕ
end_of r = first_of r + count_of r

-- an element that has this byte
pub record AtByte (o : Outcome) (at : ℤ) : Type 0 where
  pub byte : ℕ
  pub placed : o ≡ Placed byte
  pub same : pos byte ≡ at

-- skipped and discarded elements write nothing
abbrev pub Silent : Outcome → Type 0
Silent Skipped = Unit {0}
Silent (Filled value) = ⊥
Silent Discarded = Unit {0}
Silent (Placed byte) = ⊥

-- what holds of each
abbrev pub Each : (Stretch → Type 0) → List Stretch → Type 0
Each P [] = Unit {0}
Each P (r ∷ rs) = P r × Each P rs

-- n elements, of which element i has the outcome f i
module _ (f : ℕ → Outcome) (n : ℕ) where
  -- bytes at the same step; a run of one has step 0
  pub record EvenBytes (first count byte : ℕ) (step : ℤ) : Type 0 where
    pub some : 1 ≤ count
    pub within : first + count ≤ n
    pub at : (i : ℕ) → i < count → AtByte (f (first + i)) (even_byte byte step i)
    pub lone : count ≡ 1 → step ≡ pos 0

  -- fills with the same bits
  pub record EvenFills (first count value : ℕ) : Type 0 where
    pub some : 1 ≤ count
    pub within : first + count ≤ n
    pub at : (i : ℕ) → i < count → f (first + i) ≡ Filled value

  -- consecutive elements alike in this are an even run
  abbrev pub Even : Stretch → Type 0
  Even (bytes first count byte step) = EvenBytes first count byte step
  Even (fills first count value) = EvenFills first count value

  -- the longest even run from its first element
  pub record Longest (r : Stretch) : Type 0 where
    pub even : Even r
    pub most : (q : Stretch) → Even q → first_of q ≡ first_of r → count_of q ≤ count_of r

-- from element a up to b there is nothing but skipped and discarded elements
pub record Gap (f : ℕ → Outcome) (a b : ℕ) : Type 0 where
  pub order : a ≤ b
  pub silent : (i : ℕ) → a ≤ i → i < b → Silent (f i)

-- from element a up to b: gaps, and between them runs, one after the other
abbrev pub Covers : (ℕ → Outcome) → ℕ → ℕ → List Stretch → Type 0
Covers f a b [] = Gap f a b
Covers f a b (r ∷ rs) = Gap f a (first_of r) × Covers f (end_of r) b rs

-- the runs of n elements: they cover what is filled or has a byte, and each is the longest even run from its first element
pub record Given (f : ℕ → Outcome) (n : ℕ) (rs : List Stretch) : Type 0 where
  pub covers : Covers f 0 n rs
  pub longest : Each (Longest f n) rs
