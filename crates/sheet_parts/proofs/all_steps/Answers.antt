use Prim.Native.Nat.{ℕ, ◌-◌, ◌<◌}
use mathlib.Core.Path.{◌≡◌, ap, ◌∙◌}
use native.Mathlib.Omega.{arith}
use borrow.Author.Rules.{rules}
use lib.ListN.{get_or}
use Rattle.numbers.specs.Lists.{line}
use Rattle.numbers.specs.Laws.Lists.{line_start, line_step}
use Rattle.sheet.specs.Sizes.{step_places}
use Rattle.sheet.specs.declared.Step.{Step}
use Rattle.sheet_ranges.specs.Steps.{no_cell}
use Rattle.sheet_reader.specs.Parts.{sheet_of}
use Rattle.sheet_parts.specs.Cells.{no_cells}
use Rattle.sheet_parts.specs.Laws.{step_place, steps_all}
use Rattle.sheet_parts.proofs.all_steps.Goals as goal
use Rattle.sheet_parts.proofs.all_steps.Goals.{After-step_in-step}

room : (c : After-step_in-step) → c.loop-k.k < step_places
room c = step_place c.requires _ c.loop-k-test.true

pub loop-k-init : goal.loop-k-init
loop-k-init c = (search rules, c.no_cells-all.ensures ∙ line_start no_cells _)

pub step_in-step-requires : goal.step_in-step-requires
step_in-step-requires c = (c.requires, c.loop-k-test.true)

pub offset_bounds-all-k : goal.offset_bounds-all-k
offset_bounds-all-k c = omega (arith, room c)

pub bounds-all-k : goal.bounds-all-k
bounds-all-k c = room c

pub overflow_add-k : goal.overflow_add-k
overflow_add-k c = omega (arith, room c)

pub loop-k-preserved : goal.loop-k-preserved
loop-k-preserved c = (search rules, line_step _ _ _ c.loop-k.invariant.1 (ap (λ (x : Step). record { step = x }) c.step_in-step.ensures))

pub returns : goal.returns
returns c =
    let i = c.loop-k in
    let p = c.requires in
    let n : i.k ≡ c.args.given.steps = omega (arith, i.invariant.0, c.loop-k-test.false) in
    i.invariant.1 ∙ ap (line no_cells 0 (λ (k : ℕ). get_or (sheet_of c.args.s.now).step k no_cell)) n ∙ steps_all p
