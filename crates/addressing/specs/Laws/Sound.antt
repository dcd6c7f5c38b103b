-- Every element's outcome is sound: a law for all who act on outcomes.
use Rattle.std.specs.Prelude.{ℕ, zero, suc, ◌+◌, ◌*◌, ◌^◌, ◌<◌, refl, Bool, List, leb, get_or}
use Rattle.std.proofs.Common.{mod-lt, pow_pos, leb-true}
use Rattle.numbers.specs.Laws.Choice.{pick_case}
use Rattle.tensor_ranges.specs.Layouts.{the_dimension}
use Rattle.sheet.specs.declared.Dimension.{Dimension}
use Rattle.sheet.specs.declared.Layout.{Layout}
use Rattle.addressing.specs.declared.Access.{Access}
use Rattle.addressing.specs.declared.Indexed.{Indexed}
use Rattle.addressing.specs.declared.Indexed.TheVariants.{Skipped, Index}
use Rattle.clamps.specs.declared.Clamped.{Clamped}
use Rattle.clamps.specs.declared.Clamped.TheVariants.{Refused, Discarded, Filled, At}
use Rattle.addressing.specs.declared.Located.{Located}
use Rattle.clamps.specs.Clamps.{coordinate_of, clamped}
use Rattle.clamps.proofs.Laws.Clamps.{ByLoad, clamped_by}
use Rattle.addressing.specs.Sound.{Sound}
use Rattle.spans.specs.Spans.{span_coordinates}
use Rattle.addressing.specs.Rules.{scaled, part, plus, tensor_index, low_bits, addressed, settled, reached, indexed, landed, located}

scaled_by : (load : Bool) (d : Dimension) (x : Clamped) → ByLoad load x → ByLoad load (scaled d x)
scaled_by load d Refused h = h
scaled_by load d Discarded h = h
scaled_by load d Filled h = h
scaled_by load d (At x) h = h

plus_by : (load : Bool) (x y : Clamped) → ByLoad load x → ByLoad load y → ByLoad load (plus x y)
plus_by load Refused y g h = g
plus_by load Discarded y g h = g
plus_by load Filled y g h = g
plus_by load (At x) Refused g h = h
plus_by load (At x) Discarded g h = h
plus_by load (At x) Filled g h = h
plus_by load (At x) (At y) g h = tt

tensor_by : (load : Bool) (l : Layout) (cs : List ℕ) (n : ℕ) → ByLoad load (tensor_index load l cs n)
unfolding tensor_index part
tensor_by load l cs zero = tt
tensor_by load l cs (suc n) =
    let d = the_dimension l.dimensions n in
    plus_by load (tensor_index load l cs n) (part load l.mode d (get_or cs n 0)) (tensor_by load l cs n)
    (scaled_by load d (clamped load l.mode (coordinate_of d (get_or cs n 0)) d.size) (clamped_by load l.mode _ d.size))

abbrev SoundAt : Access → Located → Type 0
SoundAt a r = Sound a r.outcome

module _ (a : Access) where
  addressed_sound : (t : ℕ) → SoundAt a (addressed a t)
  unfolding addressed
  addressed_sound t = pick_case (SoundAt a) (leb (a.base + t * a.size + a.size) a.memory) _ _ (λ e. (leb-true _ _ e, (t, refl))) (λ e. tt)

  settled_sound : (x : Clamped) → ByLoad a.load x → SoundAt a (settled a x)
  settled_sound Refused h = tt
  settled_sound Discarded h = h
  settled_sound Filled h = (h, refl)
  settled_sound (At t) h = addressed_sound t

  reached_sound : (index : ℕ) → SoundAt a (reached a index)
  unfolding reached
  reached_sound index =
      pick_case (SoundAt a) (leb (2 ^ 32) index) _ _ (λ e. tt)
      (λ e. let cs = span_coordinates a.layout index in
      settled_sound (tensor_index a.load a.layout cs a.layout.rank) (tensor_by a.load a.layout cs a.layout.rank))

  landed_sound : (x : Indexed) → SoundAt a (landed a x)
  landed_sound Skipped = tt
  landed_sound (Index i) = reached_sound i

  pub located_sound : (row col : ℕ) → Sound a (located a row col).outcome
  unfolding located
  located_sound row col = landed_sound (indexed a row col)

-- the low bits of the clamp value are an element's
pub low_bits_fit : (a : Access) → low_bits a < 2 ^ (8 * a.size)
low_bits_fit a = mod-lt a.layout.clamp (pow_pos (8 * a.size))
