-- A placed element of a store, and of a load in mode Constant, names no dimension.
use Prim.Native.Nat.{ℕ, zero, suc, ◌/◌, ◌%◌, ◌^◌, ◌<◌}
use Rattle.std.proofs.Math.Path.{◌≡◌, refl, ap}
use Rattle.std.proofs.Common.{◌∙◌, arith}
use Rattle.std.specs.Prelude.{true, false, List, leb, ℤ, get_or}
use Rattle.numbers.specs.Laws.Choice.{pick_case, by_place}
use Rattle.tensor_ranges.specs.Layouts.{the_dimension}
use Rattle.outcomes.specs.declared.Outcome.TheVariants as outcome
use Rattle.outcomes.specs.declared.Outside.{Outside}
use Rattle.outcomes.specs.declared.Outside.TheVariants.{Nowhere}
use Rattle.outcomes.specs.declared.Side.TheVariants.{Inside}
use Rattle.sheet.specs.declared.ClampMode.TheVariants.{Constant}
use Rattle.sheet.specs.declared.Dimension.{Dimension}
use Rattle.spans.specs.Spans.{span_coordinates}
use Rattle.clamps.specs.declared.Clamped.{Clamped}
use Rattle.clamps.specs.declared.Clamped.TheVariants.{Refused, Discarded, Filled, At}
use Rattle.clamps.specs.Clamps.{coordinate_of, clamped, side_of}
use Rattle.clamps.specs.Sides.{side_at, first_outside}
use Rattle.clamps.proofs.Theorems.{store_inside, constant_inside, inside_nowhere}
use Rattle.addressing.specs.Rules.{scaled, part, plus, tensor_index, settled, reached, landed, indexed, located}
use Rattle.addressing.specs.declared.Access.{Access}
use Rattle.addressing.specs.declared.Indexed.{Indexed}
use Rattle.addressing.specs.declared.Indexed.TheVariants.{Skipped, Index}
use Rattle.addressing.specs.declared.Located.{Located}
use Rattle.accesses.specs.Refusals.{element_outcome}
use Rattle.explaining.specs.Elements.{outside_at, outside_of, explained}

-- Where a coordinate that rule 4 gives is inside:
module _ (a : Access) (stays : (c : ℤ) (n x : ℕ) → clamped a.load a.layout.mode c n ≡ At x → side_of c n ≡ Inside) where
  -- a dimension that rule 5 has a part for is inside
  scaled_at : (d : Dimension) (c : Clamped) (x : ℕ) → scaled d c ≡ At x → (y : ℕ) × (c ≡ At y)
  scaled_at d Refused x e = let y : ◌≡◌ {A = ℕ} 0 1 = cc in absurd (omega arith)
  scaled_at d Discarded x e = let y : ◌≡◌ {A = ℕ} 0 1 = cc in absurd (omega arith)
  scaled_at d Filled x e = let y : ◌≡◌ {A = ℕ} 0 1 = cc in absurd (omega arith)
  scaled_at d (At c) x e = (c, refl)

  part_inside : (d : Dimension) (s x : ℕ) → part a.load a.layout.mode d s ≡ At x → side_of (coordinate_of d s) d.size ≡ Inside
  unfolding part
  part_inside d s x e =
      let r = scaled_at d (clamped a.load a.layout.mode (coordinate_of d s) d.size) x e in
      stays (coordinate_of d s) d.size r.0 r.1

  -- a sum is an index only where both are
  plus_at : (a b : Clamped) (x : ℕ) → plus a b ≡ At x → ((y : ℕ) × (a ≡ At y)) × ((z : ℕ) × (b ≡ At z))
  plus_at Refused b x e = let y : ◌≡◌ {A = ℕ} 0 1 = cc in absurd (omega arith)
  plus_at Discarded b x e = let y : ◌≡◌ {A = ℕ} 0 1 = cc in absurd (omega arith)
  plus_at Filled b x e = let y : ◌≡◌ {A = ℕ} 0 1 = cc in absurd (omega arith)
  plus_at (At a) Refused x e = let y : ◌≡◌ {A = ℕ} 0 1 = cc in absurd (omega arith)
  plus_at (At a) Discarded x e = let y : ◌≡◌ {A = ℕ} 0 1 = cc in absurd (omega arith)
  plus_at (At a) Filled x e = let y : ◌≡◌ {A = ℕ} 0 1 = cc in absurd (omega arith)
  plus_at (At a) (At b) x e = ((a, refl), (b, refl))

  index_inside : (cs : List ℕ) (n x : ℕ) → tensor_index a.load a.layout cs n ≡ At x → (d : ℕ) → d < n → side_at a.layout cs d ≡ Inside
  unfolding tensor_index
  index_inside cs zero x e d h = absurd (omega arith)
  index_inside cs (suc n) x e d h =
      let l = a.layout in
      let p = plus_at (tensor_index a.load l cs n) (part a.load l.mode (the_dimension l.dimensions n) (get_or cs n 0)) x e in
      by_place d n
      (λ q. ap (side_at l cs) q ∙ part_inside (the_dimension l.dimensions n) (get_or cs n 0) p.1.0 p.1.1)
      (λ q. index_inside cs n p.0.0 p.0.1 d (omega arith))

  -- so an element with a byte has every dimension inside
  abbrev Free : Outside → Located → Type 0
  Free o r = (byte : ℕ) → r.outcome ≡ outcome.Placed byte → o ≡ Nowhere

  settled_free : (c : Clamped) (o : Outside) → ((x : ℕ) → c ≡ At x → o ≡ Nowhere) → Free o (settled a c)
  settled_free Refused o h byte e = let y : ◌≡◌ {A = ℕ} 0 1 = cc in absurd (omega arith)
  settled_free Discarded o h byte e = let y : ◌≡◌ {A = ℕ} 0 1 = cc in absurd (omega arith)
  settled_free Filled o h byte e = let y : ◌≡◌ {A = ℕ} 0 1 = cc in absurd (omega arith)
  settled_free (At t) o h byte e = h t refl

  landed_free : (i : Indexed) → Free (outside_at a.layout i) (landed a i)
  unfolding reached
  landed_free Skipped = λ byte e. refl
  landed_free (Index i) =
      let l = a.layout in
      let cs = span_coordinates l i in
      pick_case (Free (first_outside l cs)) (leb (2 ^ 32) i) _ _ (λ t byte e. let y : ◌≡◌ {A = ℕ} 0 1 = cc in absurd (omega arith))
      (λ t. settled_free (tensor_index a.load l cs l.rank) (first_outside l cs)
      (λ x e. inside_nowhere l cs (index_inside cs l.rank x e)))

  element_free : (e : ℕ) → Free (explained a e).outside (element_outcome a e)
  unfolding element_outcome located outside_of
  element_free e = landed_free (indexed a (e / a.columns) (e % a.columns))

-- A placed element of a store names no dimension,
pub store_nowhere : (a : Access) → a.load ≡ false → (e byte : ℕ) → (element_outcome a e).outcome ≡ outcome.Placed byte → (explained a e).outside ≡ Nowhere
store_nowhere a way e byte q = element_free a (rw way (store_inside a.layout.mode)) e byte q

-- nor does one of a load in mode Constant.
pub constant_nowhere : (a : Access) → a.load ≡ true → a.layout.mode ≡ Constant → (e byte : ℕ) → (element_outcome a e).outcome ≡ outcome.Placed byte → (explained a e).outside ≡ Nowhere
constant_nowhere a way m e byte q = element_free a (rw (way, m) constant_inside) e byte q
