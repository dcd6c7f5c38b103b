-- Where every dimension is inside, rule 5 gives an index: a filled or discarded element has a dimension outside.
use Rattle.std.specs.Prelude.{ℕ, zero, suc, ◌+◌, ◌*◌, ◌^◌, ◌<◌, ◌≡◌, Bool, List, leb, get_or}
use Rattle.std.proofs.Math.Path.{refl}
use Rattle.std.proofs.Common.{arith}
use Rattle.numbers.specs.Laws.Choice.{pick_case}
use Rattle.tensor_ranges.specs.Layouts.{the_dimension}
use Rattle.outcomes.specs.declared.Outside.{Outside}
use Rattle.outcomes.specs.declared.Outside.TheVariants.{Nowhere}
use Rattle.outcomes.specs.declared.Side.TheVariants.{Inside}
use Rattle.sheet.specs.declared.Layout.{Layout}
use Rattle.spans.specs.Spans.{span_coordinates}
use Rattle.clamps.specs.declared.Clamped.{Clamped}
use Rattle.clamps.specs.declared.Clamped.TheVariants.{Refused, Discarded, Filled, At}
use Rattle.clamps.specs.Clamps.{coordinate_of}
use Rattle.clamps.specs.Sides.{side_at, first_outside}
use Rattle.clamps.proofs.Laws.Sides.{inside_stays}
use Rattle.clamps.proofs.Theorems.{first_named}
use Rattle.addressing.specs.Rules.{part, plus, tensor_index, addressed, settled, reached, landed}
use Rattle.addressing.specs.declared.Access.{Access}
use Rattle.addressing.specs.declared.Indexed.{Indexed}
use Rattle.addressing.specs.declared.Indexed.TheVariants.{Skipped, Index}
use Rattle.addressing.specs.declared.Located.{Located}
use Rattle.explaining.specs.Elements.{outside_at}
use Rattle.explaining.specs.Beside.{Beside}

-- an index
abbrev Indexes : Clamped → Type 0
Indexes Refused = ⊥
Indexes Discarded = ⊥
Indexes Filled = ⊥
Indexes (At t) = Unit {0}

plus_index : (x : Clamped) (y : ℕ) → Indexes x → Indexes (plus x (At y))
plus_index Refused y h = h
plus_index Discarded y h = h
plus_index Filled y h = h
plus_index (At x) y h = tt

inside_index : (load : Bool) (l : Layout) (cs : List ℕ) (n : ℕ) → ((d : ℕ) → d < n → side_at l cs d ≡ Inside) → Indexes (tensor_index load l cs n)
unfolding tensor_index part
inside_index load l cs zero h = tt
inside_index load l cs (suc n) h =
    let x = the_dimension l.dimensions n in
    let stays = inside_stays load l.mode (coordinate_of x (get_or cs n 0)) x.size (h n (omega arith)) in
    rw stays.1 (plus_index (tensor_index load l cs n) _ (inside_index load l cs n (λ d m. h d (omega arith))))

-- none is named only where every dimension is inside
nowhere_index : (load : Bool) (l : Layout) (cs : List ℕ) → first_outside l cs ≡ Nowhere → Indexes (tensor_index load l cs l.rank)
nowhere_index load l cs e = inside_index load l cs l.rank (rw e at (first_named l cs))

abbrev BesideAt : Outside → Located → Type 0
BesideAt x r = Beside r.refusal r.outcome x

module _ (a : Access) where
  addressed_beside : (t : ℕ) (x : Outside) → BesideAt x (addressed a t)
  unfolding addressed
  addressed_beside t x = pick_case (BesideAt x) (leb (a.base + t * a.size + a.size) a.memory) _ _ (λ e. tt) (λ e z. absurd (omega arith))

  settled_beside : (c : Clamped) (x : Outside) → (x ≡ Nowhere → Indexes c) → BesideAt x (settled a c)
  settled_beside Refused x h = λ z. absurd (omega arith)
  settled_beside Discarded x h = h
  settled_beside Filled x h = h
  settled_beside (At t) x h = addressed_beside t x

  pub landed_beside : (i : Indexed) → Beside (landed a i).refusal (landed a i).outcome (outside_at a.layout i)
  unfolding reached
  landed_beside Skipped = λ z. refl
  landed_beside (Index i) =
      let l = a.layout in
      let cs = span_coordinates l i in
      pick_case (BesideAt (first_outside l cs)) (leb (2 ^ 32) i) _ _ (λ t z. absurd (omega arith))
      (λ t. settled_beside (tensor_index a.load l cs l.rank) (first_outside l cs) (nowhere_index a.load l cs))
