use Prim.Native.Nat.{ℕ, ◌+◌, ◌<◌}
use mathlib.Core.Path.{ap, subst, ◌∙◌}
use lib.ListN.{length, length-append}
use Rattle.sheet_ranges.specs.Steps.{the_step}
use Rattle.sheet_ranges.specs.Laws.Within.{within_places}
use Rattle.sheet_reader.specs.Parts.{sheet_of}
use Rattle.sheet_parts.specs.Laws.{outlined_within}
use Rattle.checking.specs.Steps.{step_types}
use Rattle.checking.specs.Laws.Met.{all_steps, met_turned}
use Rattle.accepted.specs.Passes.{pass_rest}
use Rattle.accepted.specs.Laws.Clear.{met_gives}
use Rattle.accepted.specs.Laws.Rests.{rest_start, rest_next, pass_start, pass_go, pass_end}
use Rattle.expected.specs.Expected.{outcome_event, step_events, events_at, expected}
use Rattle.expected.specs.Laws.Events.{events_count, turned_few}
use native.Mathlib.Omega.{arith}
use Rattle.tracing.proofs.count_trace.Goals as goal

pub loop-k-init : goal.loop-k-init
unfolding expected
loop-k-init c =
    let sh = sheet_of c.args.s.now in
    let e = c.empty_types-types.ensures in (
      rw e (rest_start sh c.args.memory c.requires.2),
      omega arith,
      rw e (omega (arith, ap length (pass_start (events_at sh c.args.memory) sh c.args.memory))),
    )

pub overflow_add-count : goal.overflow_add-count
overflow_add-count c =
    let l = c.loop-k in
    let t = c.loop-k-test.true in
    let few = turned_few (met_turned c.requires.0 t c.turn_at-turn.ensures c.requires.1 l.invariant.0.sized) in
    omega (arith, l.invariant.1, c.count_events-count.ensures 0, events_count 0 c.turn_at-turn.result.access, few, t, all_steps c.requires.0, within_places (outlined_within c.requires.0))

pub loop-k-preserved : goal.loop-k-preserved
loop-k-preserved c =
    let len = c.args.memory in
    let sh = sheet_of c.args.s.now in
    let w = outlined_within c.requires.0 in
    let l = c.loop-k in
    let t = c.loop-k-test.true in
    let m = c.turn_at-turn.ensures in
    let h : l.k < sh.steps = subst (λ (n : ℕ). l.k < n) (all_steps c.requires.0) t in
    let n = c.count_events-count.ensures l.k in
    let few = turned_few (met_turned c.requires.0 t m c.requires.1 l.invariant.0.sized) in
    let so = c.step_types-after.ensures ∙ ap (step_types l.types) m.step in
    let gives = ap length (met_gives c.requires.0 t m outcome_event) in
    let go = ap length (pass_go sh w len c.requires.1 l.k l.types h l.invariant.0 so (events_at sh len)) in
    let both = length-append (step_events sh.tensors l.types len l.k (the_step sh.step l.k)) (pass_rest (events_at sh len) sh len (l.k + 1) c.step_types-after.result) in (
      rest_next sh w len c.requires.1 l.k l.types h l.invariant.0 so,
      omega (arith, l.invariant.1, n, events_count l.k c.turn_at-turn.result.access, few),
      omega (arith, l.invariant.2, n, gives, go, both),
    )

pub returns : goal.returns
returns c =
    let len = c.args.memory in
    let sh = sheet_of c.args.s.now in
    let l = c.loop-k in
    let all = all_steps c.requires.0 in
    let none = ap length (pass_end (events_at sh len) sh len l.k l.types (omega (arith, c.loop-k-test.false, all))) in
    (omega (arith, l.invariant.2, none), omega (arith, l.invariant.1, all, within_places (outlined_within c.requires.0)))
