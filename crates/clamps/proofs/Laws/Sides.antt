-- The sides of a layout's dimensions one after the other, and what rule 4 makes of a coordinate inside.
use Prim.Native.Nat.{ℕ, zero, suc, ◌+◌, ◌-◌, ◌<◌, ◌≤◌}
use Rattle.std.specs.Prelude.{◌≡◌, Bool, leb, ℤ, pos, negsuc}
use Rattle.std.proofs.Math.Path.{refl}
use Rattle.std.proofs.Common.{add-one, add-zero}
use native.Mathlib.Omega.{arith}
use Rattle.numbers.specs.Choice.{pick}
use Rattle.numbers.specs.Laws.Choice.{by_test, by_place}
use Rattle.outcomes.specs.declared.Side.{Side}
use Rattle.outcomes.specs.declared.Side.TheVariants.{Inside, Below, Above}
use Rattle.outcomes.specs.declared.Outside.{Outside}
use Rattle.outcomes.specs.declared.Outside.TheVariants as outside
use Rattle.sheet.specs.declared.ClampMode.{ClampMode}
use Rattle.clamps.specs.declared.Clamped.TheVariants.{At}
use Rattle.clamps.specs.Clamps.{outside, clamped, side_of}
use Rattle.clamps.specs.Sides.{named, outside_from}
use Rattle.clamps.specs.Named.{First}

-- one turn over n dimensions
module _ (f : ℕ → Side) (d n : ℕ) where
  pub outside_go : d < n → outside_from f d (n - d) ≡ named d (f d) (outside_from f (d + 1) (n - (d + 1)))
  unfolding outside_from
  outside_go h = let e : n - d ≡ suc (n - (d + 1)) = omega arith in rw (e, add-one) refl

  pub outside_end : n ≤ d → outside_from f d (n - d) ≡ outside.Nowhere
  unfolding outside_from
  outside_end h = let e : n - d ≡ 0 = omega arith in rw e refl

-- the first of m dimensions from d on is the first of all where those before d are inside
module _ (f : ℕ → Side) where
  abbrev Before : ℕ → Type 0
  Before d = (e : ℕ) → e < d → f e ≡ Inside

  first_here : (d m : ℕ) (s : Side) (later : Outside) → f d ≡ s → Before d → (f d ≡ Inside → First f (d + suc m) later) → First f (d + suc m) (named d s later)
  first_here d m Inside later e b g = g e
  first_here d m Below later e b g = record { among = omega arith; outside = e; earlier = b }
  first_here d m Above later e b g = record { among = omega arith; outside = e; earlier = b }

  pub first_from_lem : (d m : ℕ) → ((e : ℕ) → e < d → f e ≡ Inside) → First f (d + m) (outside_from f d m)
  unfolding outside_from
  first_from_lem d zero b = rw (add-zero d) b
  first_from_lem d (suc m) b =
      first_here d m (f d) (outside_from f (suc d) m) refl b
      (λ i. let e : d + suc m ≡ suc d + m = omega arith in
      rw e (first_from_lem (suc d) m (λ k h. by_place k d (λ q. rw q i) (λ q. b k (omega arith)))))

  -- none is named where all are inside
  pub from_inside : (d m : ℕ) → ((e : ℕ) → e < d + m → f e ≡ Inside) → outside_from f d m ≡ outside.Nowhere
  unfolding outside_from
  from_inside d zero h = refl
  from_inside d (suc m) h = rw (h d (omega arith)) (from_inside (suc d) m (λ e l. h e (omega arith)))

-- rule 4 keeps a coordinate that is inside
pub inside_itself : (load : Bool) (mode : ClampMode) (c : ℤ) (n : ℕ) → side_of c n ≡ Inside → (a : ℕ) × ((c ≡ pos a) × (clamped load mode c n ≡ At a))
unfolding side_of clamped pick
inside_itself load mode (negsuc a) n e = let y : ◌≡◌ {A = ℕ} 0 1 = cc in absurd (omega arith)
inside_itself load mode (pos a) n e =
    by_test (leb n a)
    (λ t. let z : Above ≡ Inside = rw t at e in let y : ◌≡◌ {A = ℕ} 0 1 = cc in absurd (omega arith))
    (λ t. (a, (refl, rw t refl)))

pub inside_stays : (load : Bool) (mode : ClampMode) (c : ℤ) (n : ℕ) → side_of c n ≡ Inside → (a : ℕ) × (clamped load mode c n ≡ At a)
inside_stays load mode c n e = let r = inside_itself load mode c n e in (r.0, r.1.1)

-- and gives what the mode gives for any other
pub outside_mode : (load : Bool) (mode : ClampMode) (c : ℤ) (n : ℕ) → (side_of c n ≡ Inside → ⊥) → clamped load mode c n ≡ outside load mode c n
unfolding side_of clamped pick
outside_mode load mode (negsuc a) n h = refl
outside_mode load mode (pos a) n h = by_test (leb n a) (λ t. rw t refl) (λ t. absurd (h (rw t refl)))

-- a mode that has no coordinate outside gives one only inside
pub at_inside : (load : Bool) (mode : ClampMode) (c : ℤ) (n x : ℕ) → (outside load mode c n ≡ At x → ⊥) → clamped load mode c n ≡ At x → side_of c n ≡ Inside
unfolding side_of clamped pick
at_inside load mode (negsuc a) n x h e = absurd (h e)
at_inside load mode (pos a) n x h e = by_test (leb n a) (λ t. absurd (h (rw t at e))) (λ t. rw t refl)
