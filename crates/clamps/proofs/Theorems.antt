-- What the side of a coordinate says, and which dimension is named.
use Rattle.std.specs.Prelude.{ℕ, ◌<◌, ◌≡◌, refl, Bool, true, false, List, leb, ℤ, pos, negsuc}
use Rattle.std.proofs.Common.{zero-le, zero-add, not-suc-le-zero, arith, lt-ltb, le-ltb, ltb-true, leb-false}
use Rattle.std.specs.Int.Signed.{lt_z}
use Rattle.numbers.specs.Choice.{pick}
use Rattle.numbers.specs.Laws.Choice.{pick_case}
use Rattle.outcomes.specs.declared.Side.TheVariants.{Inside, Below, Above}
use Rattle.outcomes.specs.declared.Outside.TheVariants as outside
use Rattle.sheet.specs.declared.ClampMode.{ClampMode}
use Rattle.sheet.specs.declared.ClampMode.TheVariants.{Undefined, Constant, ClampToEdge, Repeat, MirrorRepeat}
use Rattle.sheet.specs.declared.Layout.{Layout}
use Rattle.clamps.specs.declared.Clamped.TheVariants.{At}
use Rattle.clamps.specs.Clamps.{on_store, outside, clamped, side_of}
use Rattle.clamps.specs.Sides.{side_at, first_outside}
use Rattle.clamps.specs.Named.{Tells, First}
use Rattle.clamps.proofs.Laws.Sides.{inside_itself, outside_mode, at_inside, first_from_lem, from_inside}

-- a store has no coordinate outside
on_store_none : (mode : ClampMode) (x : ℕ) → on_store mode ≡ At x → ⊥
on_store_none Undefined x e = let y : ◌≡◌ {A = ℕ} 0 1 = cc in absurd (omega arith)
on_store_none Constant x e = let y : ◌≡◌ {A = ℕ} 0 1 = cc in absurd (omega arith)
on_store_none ClampToEdge x e = let y : ◌≡◌ {A = ℕ} 0 1 = cc in absurd (omega arith)
on_store_none Repeat x e = let y : ◌≡◌ {A = ℕ} 0 1 = cc in absurd (omega arith)
on_store_none MirrorRepeat x e = let y : ◌≡◌ {A = ℕ} 0 1 = cc in absurd (omega arith)

-- Below is below 0, above is at or above n, and inside is neither;
pub side_tells : (c : ℤ) (n : ℕ) → Tells c n (side_of c n)
unfolding side_of
side_tells (negsuc a) n = refl
side_tells (pos a) n =
    pick_case (Tells (pos a) n) (leb n a) Above Inside (λ t. (le-ltb a 0 zero-le, t)) (λ t. (le-ltb a 0 zero-le, lt-ltb a n (leb-false n a t)))

-- and a coordinate below 0 is below, whatever n.
pub negative_below : (c : ℤ) (n : ℕ) → lt_z c (pos 0) ≡ true → side_of c n ≡ Below
unfolding side_of
negative_below (negsuc a) n e = refl
negative_below (pos a) n e = absurd (omega (arith, ltb-true a 0 e))

-- Rule 4 goes by the same sides: inside it gives the coordinate itself,
pub inside_given : (load : Bool) (mode : ClampMode) (c : ℤ) (n : ℕ) → side_of c n ≡ Inside → (a : ℕ) × ((c ≡ pos a) × (clamped load mode c n ≡ At a))
inside_given load mode c n e = inside_itself load mode c n e

-- else what the mode gives.
pub outside_given : (load : Bool) (mode : ClampMode) (c : ℤ) (n : ℕ) → (side_of c n ≡ Inside → ⊥) → clamped load mode c n ≡ outside load mode c n
outside_given load mode c n h = outside_mode load mode c n h

-- So a coordinate that a store has, or a load in mode Constant, is inside.
pub store_inside : (mode : ClampMode) (c : ℤ) (n x : ℕ) → clamped false mode c n ≡ At x → side_of c n ≡ Inside
unfolding outside pick
store_inside mode c n x e = at_inside false mode c n x (on_store_none mode x) e

pub constant_inside : (c : ℤ) (n x : ℕ) → clamped true Constant c n ≡ At x → side_of c n ≡ Inside
unfolding outside pick
constant_inside c n x e = at_inside true Constant c n x (λ z. let y : ◌≡◌ {A = ℕ} 0 1 = cc in absurd (omega arith)) e

module _ (l : Layout) (cs : List ℕ) where
  -- None is named only where every dimension is inside; one that is named is on its side, and every earlier one is inside.
  pub first_named : First (side_at l cs) l.rank (first_outside l cs)
  unfolding first_outside
  first_named = rw (zero-add l.rank) at (first_from_lem (side_at l cs) 0 l.rank (λ e h. absurd (not-suc-le-zero h)))

  -- None is named where every dimension is inside.
  pub inside_nowhere : ((d : ℕ) → d < l.rank → side_at l cs d ≡ Inside) → first_outside l cs ≡ outside.Nowhere
  unfolding first_outside
  inside_nowhere h = from_inside (side_at l cs) 0 l.rank (λ e b. h e (omega arith))
