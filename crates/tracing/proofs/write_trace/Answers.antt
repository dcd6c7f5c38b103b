use Prim.Native.Nat.{ℕ, ◌+◌, ◌<◌}
use mathlib.Core.Path.{refl, sym, ap, subst, ◌∙◌}
use mathlib.Core.List.{List}
use lib.ListN.{length, length-append}
use lib.Seq.{sets}
use Rattle.sheet_ranges.specs.Steps.{the_step}
use Rattle.sheet_ranges.specs.Laws.Within.{within_places}
use Rattle.sheet_reader.specs.Parts.{sheet_of}
use Rattle.sheet_parts.specs.Laws.{outlined_within}
use Rattle.checking.specs.Steps.{step_types}
use Rattle.checking.specs.Laws.Met.{all_steps}
use Rattle.accepted.specs.Passes.{pass_rest}
use Rattle.accepted.specs.Laws.Clear.{met_clear, met_gives}
use Rattle.accepted.specs.Laws.Rests.{rest_start, rest_next, pass_start, pass_go, pass_end}
use Rattle.traces.specs.Writing.{trace_bytes}
use Rattle.traces.specs.declared.Event.{Event}
use Rattle.expected.specs.Expected.{outcome_event, step_events, events_at, expected}
use Rattle.expected.specs.Laws.Events.{events_count, surveyed_events}
use Rattle.tracing.proofs.Laws.{fields_after}
use native.Mathlib.Omega.{arith}
use Rattle.tracing.proofs.write_trace.Goals as goal

pub loop-k-init : goal.loop-k-init
unfolding expected
loop-k-init c =
    let sh = sheet_of c.args.s.now in
    let e = c.empty_types-types.ensures in
    let t = pass_start (events_at sh c.args.memory) sh c.args.memory in (
      rw e (rest_start sh c.args.memory c.requires.outlined.2),
      rw (e, t) (omega (arith, c.requires.event_length_in_bounds)),
      rw (e, t) refl,
      c.no_entries-entries.ensures,
    )

pub survey_access-o-requires : goal.survey_access-o-requires
survey_access-o-requires c =
    let l = c.loop-k in
    (met_clear c.requires.outlined.0 c.loop-k-test.true c.turn_at-turn.ensures c.requires.outlined.1 l.invariant.0, l.invariant.3)

pub write_events-requires : goal.write_events-requires
write_events-requires c =
    let len = c.args.memory in
    let sh = sheet_of c.args.s.now in
    let w = outlined_within c.requires.outlined.0 in
    let l = c.loop-k in
    let t = c.loop-k-test.true in
    let m = c.turn_at-turn.ensures in
    let h : l.k < sh.steps = subst (λ (n : ℕ). l.k < n) (all_steps c.requires.outlined.0) t in
    let a = c.turn_at-turn.result.access in
    let o = c.survey_access-o in
    let listed = o.ensures.listed in
    let gives = met_gives c.requires.outlined.0 t m outcome_event in
    let count = listed.count ∙ events_count l.k a ∙ ap length (sym gives) in
    let es = step_events sh.tensors l.types len l.k (the_step sh.step l.k) in
    let after = step_types l.types (the_step sh.step l.k) in
    let go = ap length (pass_go sh w len c.requires.outlined.1 l.k l.types h l.invariant.0 {after = after} refl (events_at sh len)) in
    let both = length-append es (pass_rest (events_at sh len) sh len (l.k + 1) after) in
    (omega (arith, l.auto.out, l.invariant.1, go, both, count), omega (arith, h, within_places w), listed.few)

pub loop-k-preserved : goal.loop-k-preserved
loop-k-preserved c =
    let len = c.args.memory in
    let sh = sheet_of c.args.s.now in
    let w = outlined_within c.requires.outlined.0 in
    let l = c.loop-k in
    let t = c.loop-k-test.true in
    let m = c.turn_at-turn.ensures in
    let h : l.k < sh.steps = subst (λ (n : ℕ). l.k < n) (all_steps c.requires.outlined.0) t in
    let a = c.turn_at-turn.result.access in
    let o = c.survey_access-o in
    let listed = o.ensures.listed in
    let gives = met_gives c.requires.outlined.0 t m outcome_event in
    let count = listed.count ∙ events_count l.k a ∙ ap length (sym gives) in
    let es = step_events sh.tensors l.types len l.k (the_step sh.step l.k) in
    let v = c.write_events in
    let so = c.step_types-after.ensures ∙ ap (step_types l.types) m.step in
    let rest = pass_rest (events_at sh len) sh len (l.k + 1) c.step_types-after.result in
    let go = pass_go sh w len c.requires.outlined.1 l.k l.types h l.invariant.0 so (events_at sh len) in
    let same = surveyed_events l.k a listed ∙ sym gives in (
      rest_next sh w len c.requires.outlined.1 l.k l.types h l.invariant.0 so,
      omega (arith, l.invariant.1, ap length go, length-append es rest, count),
      fields_after l.out l.at es rest count (v.ensures ∙ ap (λ (x : List Event). sets l.out l.at (trace_bytes x)) same)
          ∙ ap (λ (x : List Event). sets l.out l.at (trace_bytes x)) (sym go)
          ∙ l.invariant.2,
      o.ensures.entries_len,
    )

pub returns : goal.returns
unfolding trace_bytes
returns c =
    let sh = sheet_of c.args.s.now in
    let l = c.loop-k in
    let none = pass_end (events_at sh c.args.memory) sh c.args.memory l.k l.types (omega (arith, c.loop-k-test.false, all_steps c.requires.outlined.0)) in
    rw none at l.invariant.2
