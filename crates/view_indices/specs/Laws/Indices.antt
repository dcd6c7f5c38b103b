-- The coordinates of rules 2 and 3, dimension by dimension.
use Prim.Native.Nat.{ℕ, zero, suc, ◌-◌, ◌/◌, ◌%◌, ◌<◌, ◌≤◌}
use Rattle.std.specs.Prelude.{◌≡◌, get_or, set, List}
use Rattle.std.proofs.Math.Path.{refl}
use Rattle.std.proofs.Common.{not-suc-le-zero}
use native.Mathlib.Omega.{arith}
use Rattle.sheet.specs.Sizes.{rank_places}
use Rattle.view_indices.specs.Indices.{five, coordinates}

pub five_at : (g : ℕ → ℕ) (i : ℕ) → i < rank_places → get_or (five g) i 0 ≡ g i
five_at g zero h = refl
five_at g (suc zero) h = refl
five_at g (suc (suc zero)) h = refl
five_at g (suc (suc (suc zero))) h = refl
five_at g (suc (suc (suc (suc zero)))) h = refl
five_at g (suc (suc (suc (suc (suc i))))) h = absurd (omega arith)

-- Rules 2 and 3: a loop from dimension k - 1 on, and its end
module _ (place size : ℕ → ℕ) where
  pub coordinates_more : (k index : ℕ) (cs : List ℕ) → 0 < k
      → coordinates place size (k - 1) (index / size (place (k - 1))) (set cs (place (k - 1)) (index % size (place (k - 1))))
      ≡ coordinates place size k index cs
  unfolding coordinates
  coordinates_more zero index cs h = absurd (not-suc-le-zero h)
  coordinates_more (suc k) index cs h = let e : suc k - 1 ≡ k = omega arith in rw e refl

  pub coordinates_end : (k index : ℕ) (cs : List ℕ) → k ≤ 0 → cs ≡ coordinates place size k index cs
  unfolding coordinates
  coordinates_end zero index cs h = refl
  coordinates_end (suc k) index cs h = absurd (not-suc-le-zero h)
