use Prim.Native.Nat.{◌<◌}
use mathlib.Core.Path.{refl, sym, ◌∙◌}
use native.Mathlib.Omega.{arith}
use Rattle.sheet.specs.Sizes.{step_places}
use Rattle.sheet_reader.specs.Laws.Taken.{step_taken, step_place}
use Rattle.sheet_reader.proofs.read_step.Goals as goal
use Rattle.sheet_reader.proofs.read_step.Goals.{Else-number-gt0}

-- a step that is taken has a place
room : (c : Else-number-gt0) → c.args.given.steps < step_places
room c = step_place _ (step_taken _ _ _ _ _ (sym c.step_refusal-number.ensures ∙ omega (arith, c.if-number-gt0.false))).may

pub returns-then-number-gt0 : goal.returns-then-number-gt0
returns-then-number-gt0 c = record {
  number_value = c.step_refusal-number.ensures;
  given_value = λ z. absurd (omega (arith, c.if-number-gt0.true, z));
}

pub overflow_add-parts : goal.overflow_add-parts
overflow_add-parts c = omega (arith, room c)

pub offset_bounds-parts-k : goal.offset_bounds-parts-k
offset_bounds-parts-k c = omega (arith, room c)

pub bounds-parts-k : goal.bounds-parts-k
bounds-parts-k c = omega (arith, room (goal.at.bounds-parts-k c).Else-number-gt0)

pub overflow_add-result : goal.overflow_add-result
overflow_add-result c = omega (arith, room (goal.at.overflow_add-result c).Else-number-gt0)

pub returns : goal.returns
returns c = record {
  number_value = c.step_refusal-number.ensures;
  given_value = λ z. (refl, refl);
}
