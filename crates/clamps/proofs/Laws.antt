-- The loop over a layout's dimensions that looks for the first one outside.
pub mod Clamps
pub mod Sides
pub mod Offsets
use Prim.Native.Nat.{ℕ, ◌+◌, ◌-◌, ◌<◌}
use mathlib.Core.Path.{◌≡◌, refl, sym, ◌∙◌}
use mathlib.Core.Bool.{Bool}
use mathlib.Core.List.{List}
use native.Mathlib.Nat.{sub-zero}
use lib.IntN.{ℤ, pos, ◌+ℤ◌}
use lib.ListN.{get_or}
use Rattle.tensor_ranges.specs.Layouts.{the_dimension}
use Rattle.outcomes.specs.declared.Side.{Side}
use Rattle.sheet.specs.declared.Layout.{Layout}
use Rattle.clamps.specs.declared.Sided.{Sided}
use Rattle.clamps.specs.Clamps.{twos, sided}
use Rattle.clamps.specs.Sides.{side_at, named, outside_from, first_outside}
use Rattle.clamps.proofs.Laws.Sides.{outside_go}

module _ (l : Layout) (cs : List ℕ) where
  -- what is left to look at from dimension d on has the whole's answer
  abbrev pub Looking : ℕ → Type 0
  Looking d = outside_from (side_at l cs) d (l.rank - d) ≡ first_outside l cs

  pub look_start : outside_from (side_at l cs) 0 (l.rank - 0) ≡ first_outside l cs
  unfolding first_outside
  look_start = rw (sub-zero l.rank) refl

  -- one turn, by what its calls give: the offset and the size as wider numbers, the coordinate, and rule 4's answer
  pub look_on : (d : ℕ) → d < l.rank → Looking d → (load : Bool) {offset n : ℕ} {c : ℤ} {r : Sided} {s : Side}
      → offset ≡ (the_dimension l.dimensions d).offset → c ≡ pos (get_or cs d 0) +ℤ twos offset → n ≡ (the_dimension l.dimensions d).size
      → r ≡ sided load l.mode c n → r.side ≡ s → named d s (outside_from (side_at l cs) (d + 1) (l.rank - (d + 1))) ≡ first_outside l cs
  look_on d h inv load {r = r} e f g t q =
      let z : r.side ≡ side_at l cs d = rw (t, f, e, g) refl in
      rw (sym q ∙ z) (sym (outside_go (side_at l cs) d l.rank h) ∙ inv)
