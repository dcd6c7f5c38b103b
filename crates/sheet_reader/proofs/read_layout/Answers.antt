use Prim.Native.Nat.{◌<◌}
use mathlib.Core.Path.{refl, sym, ◌∙◌}
use native.Mathlib.Omega.{arith}
use Rattle.sheet.specs.Sizes.{layout_places}
use Rattle.sheet_reader.specs.Laws.Taken.{layout_taken, layout_place}
use Rattle.sheet_reader.proofs.read_layout.Goals as goal
use Rattle.sheet_reader.proofs.read_layout.Goals.{Else-number-gt0}

-- a layout that is taken has a place
room : (c : Else-number-gt0) → c.args.given.layouts < layout_places
room c = layout_place _ (layout_taken _ _ _ _ (sym c.layout_refusal-number.ensures ∙ omega (arith, c.if-number-gt0.false))).may

pub returns-then-number-gt0 : goal.returns-then-number-gt0
returns-then-number-gt0 c = record {
  number_value = c.layout_refusal-number.ensures;
  given_value = λ z. absurd (omega (arith, c.if-number-gt0.true, z));
}

pub offset_bounds-parts-k : goal.offset_bounds-parts-k
offset_bounds-parts-k c = omega (arith, room c)

pub bounds-parts-k : goal.bounds-parts-k
bounds-parts-k c = omega (arith, room (goal.at.bounds-parts-k c).Else-number-gt0)

pub overflow_add-result : goal.overflow_add-result
overflow_add-result c = omega (arith, room (goal.at.overflow_add-result c).Else-number-gt0)

pub returns : goal.returns
returns c = record {
  number_value = c.layout_refusal-number.ensures;
  given_value = λ z. (refl, refl);
}
