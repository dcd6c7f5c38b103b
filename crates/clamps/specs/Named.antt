-- What a side says of a coordinate, and what it is to be the first dimension that is not inside: what the theorems speak of.
use Rattle.std.specs.Prelude.{ℕ, ◌<◌, ◌≡◌, true, false, ℤ, pos}
use Rattle.std.specs.Int.Signed.{lt_z, le_z}
use Rattle.outcomes.specs.declared.Side.{Side}
use Rattle.outcomes.specs.declared.Side.TheVariants as side
use Rattle.outcomes.specs.declared.Outside.{Outside}
use Rattle.outcomes.specs.declared.Outside.TheVariants.{Nowhere, Below, Above}

-- below is below 0, above is at or above n, and inside is neither
abbrev pub Tells : ℤ → ℕ → Side → Type 0
Tells c n side.Inside = (lt_z c (pos 0) ≡ false) × (lt_z c (pos n) ≡ true)
Tells c n side.Below = lt_z c (pos 0) ≡ true
Tells c n side.Above = (lt_z c (pos 0) ≡ false) × (le_z (pos n) c ≡ true)

-- dimension d is on a side other than inside, and every earlier one is inside
pub record Leads (f : ℕ → Side) (n d : ℕ) (s : Side) : Type 0 where
  pub among : d < n
  pub outside : f d ≡ s
  pub earlier : (e : ℕ) → e < d → f e ≡ side.Inside

-- of n dimensions with these sides: none is named where each is inside, else the first that is not
abbrev pub First : (ℕ → Side) → ℕ → Outside → Type 0
First f n Nowhere = (d : ℕ) → d < n → f d ≡ side.Inside
First f n (Below d) = Leads f n d side.Below
First f n (Above d) = Leads f n d side.Above
