-- Rules 3 to 5 in the leading dimensions that are fixed.
use Prim.Native.Nat.{ℕ, zero, suc, ◌/◌, ◌<◌, ◌≤◌}
use mathlib.Core.Path.{◌≡◌, refl}
use mathlib.Core.Bool.{Bool, true}
use native.Mathlib.Nat.{zero-add, mod-one}
use native.Mathlib.Omega.{arith}
use lib.IntN.{pos}
use borrow.Author.Tests.{lt-leb}
use Rattle.numbers.specs.Choice.{pick}
use Rattle.kinds.specs.Widths.{s16}
use Rattle.kinds.specs.Laws.Signs.{value_lower, width_s16}
use Rattle.tensor_ranges.specs.Layouts.{the_dimension, layout_ok}
use Rattle.tensor_ranges.specs.Laws.Facts.{InSize, layout_size}
use Rattle.sheet.specs.declared.ClampMode.{ClampMode}
use Rattle.sheet.specs.declared.Dimension.{Dimension}
use Rattle.sheet.specs.declared.Layout.{Layout}
use Rattle.dimensions.specs.Dimensions.{fixed, fixed_part, lead, lead_start}
use Rattle.dimensions.specs.Laws.Tails.{fixed_span, fixed_inside, lead_most, lead_fixed}
use Rattle.clamps.specs.declared.Clamped.TheVariants.{At}
use Rattle.addressing.specs.Rules.{part}
use Rattle.addressing.specs.Rows.{up_to}
use Rattle.clamps.specs.Clamps.{twos, clamped}

-- the coordinate of such a dimension is its offset, which stays
fixed_at : (d : Dimension) → fixed d ≡ true → InSize d.size → (load : Bool) (mode : ClampMode) → part load mode d 0 ≡ At (fixed_part d)
unfolding part clamped pick
fixed_at d e z load mode =
    let t : twos d.offset ≡ pos d.offset = value_lower s16 d.offset (rw width_s16 (omega (arith, fixed_inside d e, z.most))) in
    rw (t, zero-add, lt-leb d.size d.offset (fixed_inside d e))

module _ (l : Layout) (ok : layout_ok l ≡ true) where
  pub lead_sum : (load : Bool) (index n : ℕ) → n ≤ lead l → up_to load l n index ≡ At (lead_start l n)
  unfolding up_to lead_start
  lead_sum load index zero h = refl
  lead_sum load index (suc n) h =
      let m : n < l.rank = omega (arith, lead_most l) in
      let f = lead_fixed l n (omega arith) in
      let s = fixed_span (the_dimension l.dimensions n) f in
      rw (s, mod-one, lead_sum load (index / 1) n (omega arith), fixed_at (the_dimension l.dimensions n) f (layout_size l ok n m) load l.mode) refl
