use Prim.Native.Nat.{◌<◌}
use mathlib.Core.Path.{ap, ◌∙◌}
use Rattle.sheet_reader.specs.Parts.{sheet_of}
use Rattle.sheet_parts.specs.Laws.{outlined_within}
use Rattle.checking.specs.Steps.{step_types}
use Rattle.checking.specs.Laws.Met.{all_steps}
use Rattle.accepted.specs.Passes.{types_at}
use Rattle.accepted.specs.Laws.Rests.{rest_start, rest_next, types_go}
use native.Mathlib.Omega.{arith}
use Rattle.explaining.proofs.types_at.Goals as goal

pub loop-k-init : goal.loop-k-init
unfolding types_at
loop-k-init c =
    let e = c.empty_types-types.ensures in
    (e, rw e (rest_start (sheet_of c.args.s.now) c.args.memory c.requires.2))

pub loop-k-preserved : goal.loop-k-preserved
loop-k-preserved c =
    let len = c.args.memory in
    let sh = sheet_of c.args.s.now in
    let w = outlined_within c.requires.0 in
    let l = c.loop-k in
    let t = c.loop-k-test.true in
    let h : l.k < sh.steps = omega (arith, t, c.requires.3, all_steps c.requires.0) in
    let so = c.step_types-after.ensures ∙ ap (step_types l.types) c.step_in-step.ensures in (
      types_go sh w len c.requires.1 l.k l.types h l.invariant.1 so l.invariant.0,
      rest_next sh w len c.requires.1 l.k l.types h l.invariant.1 so,
    )
