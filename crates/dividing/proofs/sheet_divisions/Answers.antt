use Prim.Native.Nat.{ℕ, ◌+◌, ◌<◌}
use mathlib.Core.Path.{ap, subst, ◌∙◌}
use Rattle.sheet_ranges.specs.Steps.{the_step}
use Rattle.sheet_ranges.specs.Laws.Within.{within_places}
use Rattle.sheet_reader.specs.Parts.{sheet_of}
use Rattle.sheet_parts.specs.Laws.{outlined_within}
use Rattle.checking.specs.Steps.{step_types}
use Rattle.checking.specs.Laws.Met.{all_steps}
use Rattle.accepted.specs.Passes.{pass_rest}
use Rattle.accepted.specs.Laws.Clear.{met_clear, met_gives}
use Rattle.accepted.specs.Laws.Rests.{rest_start, rest_next, pass_start, pass_go, pass_end}
use Rattle.dividing.specs.Divisions.{element_divisions, step_divisions, divisions_at, divisions, total}
use Rattle.dividing.specs.Laws.Totals.{total_append}
use native.Mathlib.Omega.{arith}
use Rattle.dividing.proofs.sheet_divisions.Goals as goal

pub loop-k-init : goal.loop-k-init
unfolding divisions
loop-k-init c =
    let sh = sheet_of c.args.s.now in
    let e = c.empty_types-types.ensures in (
      rw e (rest_start sh c.args.memory c.requires.2),
      omega arith,
      rw e (omega (arith, ap total (pass_start (divisions_at sh c.args.memory) sh c.args.memory))),
    )

pub access_divisions-sum-requires : goal.access_divisions-sum-requires
access_divisions-sum-requires c =
    met_clear c.requires.0 c.loop-k-test.true c.turn_at-turn.ensures c.requires.1 c.loop-k.invariant.0

pub loop-k-preserved : goal.loop-k-preserved
loop-k-preserved c =
    let len = c.args.memory in
    let sh = sheet_of c.args.s.now in
    let w = outlined_within c.requires.0 in
    let l = c.loop-k in
    let t = c.loop-k-test.true in
    let m = c.turn_at-turn.ensures in
    let h : l.k < sh.steps = subst (λ (n : ℕ). l.k < n) (all_steps c.requires.0) t in
    let n = c.access_divisions-sum.ensures in
    let so = c.step_types-after.ensures ∙ ap (step_types l.types) m.step in
    let gives = ap total (met_gives c.requires.0 t m (λ (n : ℕ). element_divisions)) in
    let go = ap total (pass_go sh w len c.requires.1 l.k l.types h l.invariant.0 so (divisions_at sh len)) in
    let both = total_append (step_divisions sh.tensors l.types len l.k (the_step sh.step l.k)) (pass_rest (divisions_at sh len) sh len (l.k + 1) c.step_types-after.result) in (
      rest_next sh w len c.requires.1 l.k l.types h l.invariant.0 so,
      omega (arith, l.invariant.1, n.1),
      omega (arith, l.invariant.2, n.0, gives, go, both),
    )

pub returns : goal.returns
unfolding total
returns c =
    let len = c.args.memory in
    let sh = sheet_of c.args.s.now in
    let l = c.loop-k in
    let all = all_steps c.requires.0 in
    let none = ap total (pass_end (divisions_at sh len) sh len l.k l.types (omega (arith, c.loop-k-test.false, all))) in
    (omega (arith, l.invariant.2, none), omega (arith, l.invariant.1, all, within_places (outlined_within c.requires.0)))
