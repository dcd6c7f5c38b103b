use Prim.Native.Nat.{ℕ, ◌+◌, ◌-◌, ◌<◌, ◌≤◌}
use mathlib.Core.Path.{◌≡◌, refl, sym, ap, subst, ◌∙◌}
use lib.ListN.{length}
use Rattle.refusals.specs.declared.Refusal.{Refusal}
use Rattle.sheet_ranges.specs.Steps.{the_step}
use Rattle.sheet_ranges.specs.Laws.Within.{within_places}
use Rattle.sheet_reader.specs.Parts.{sheet_of}
use Rattle.sheet_parts.specs.Laws.{outlined_within}
use Rattle.registers.specs.Laws.Sized.{sized_empty}
use Rattle.checking.specs.Laws.Met.{all_steps, met_turned, met_checked}
use Rattle.checking.specs.Laws.Steps.{check_sized}
use Rattle.checking.specs.Laws.Turns.{within_step, checked_start, checked_go, checked_stop, checked_end}
use Rattle.checking.specs.declared.CheckAnswer.{CheckAnswer}
use Rattle.checking.specs.declared.StepCheck.{StepCheck}
use Rattle.accepted.specs.Passes.{pass_rest}
use Rattle.accepted.specs.Laws.Clear.{met_gives}
use Rattle.accepted.specs.Laws.Rests.{pass_start, pass_on, pass_end}
use Rattle.traces.specs.Numbered.{events_in}
use Rattle.expected.specs.Expected.{outcome_event, step_events, events_at, expected}
use Rattle.expected.specs.Laws.Events.{events_count, turned_few, told_events}
use Rattle.replaying.specs.Matching.{match_all}
use Rattle.replaying.proofs.Laws.Matching.{match_append, match_count, match_ordered}
use native.Mathlib.Omega.{arith}
use Rattle.replaying.proofs.match_sheet.Goals as goal

pub loop-k-init : goal.loop-k-init
unfolding expected
loop-k-init c =
    let s = c in
    let len = s.args.memory in
    let sh = sheet_of s.args.s.now in
    let e = c.empty_types-types.ensures in
    let t = pass_start (events_at sh len) sh len in (
      omega arith,
      rw e (record { sized = sized_empty; counted = 0; same = checked_start sh len }),
      (omega arith, omega arith),
      rw (e, t) refl,
      c.no_entries-entries.ensures,
    )

pub turn_at-turn-requires : goal.turn_at-turn-requires
turn_at-turn-requires c = (c.requires.0, c.loop-k-test.true)

pub check_step-got-requires : goal.check_step-got-requires
check_step-got-requires c =
    let s = c in
    let l = c.loop-k in
    ((_, met_turned s.requires.0 c.loop-k-test.true c.turn_at-turn.ensures s.requires.1 l.invariant.1.sized), l.invariant.4)

pub returns-then-stop-gt0 : goal.returns-then-stop-gt0
returns-then-stop-gt0 c =
    let s = c in
    let len = s.args.memory in
    let sh = sheet_of s.args.s.now in
    let l = c.loop-k in
    let t = c.loop-k-test.true in
    let met = c.turn_at-turn.ensures in
    let h : l.k < sh.steps = subst (λ (n : ℕ). l.k < n) (all_steps s.requires.0) t in
    let r = c.check_step-got in
    let e = c.refusal_at.ensures in
    let is = met_checked s.requires.0 t met r.ensures.value in
    let stop = checked_stop sh.steps sh len l.k l.types l.invariant.1.counted r.result is h (omega (arith, c.if-stop-gt0.true)) in record {
      refusal_value = e ∙ ap (λ (x : CheckAnswer). x.refusal) (stop ∙ l.invariant.1.same);
      events_value = λ z. absurd (omega (arith, ap (λ (x : Refusal). x.number) e, z, c.if-stop-gt0.true));
    }

pub count_events-count-requires : goal.count_events-count-requires
count_events-count-requires c =
    let s = c in
    turned_few (met_turned s.requires.0 c.loop-k-test.true c.turn_at-turn.ensures s.requires.1 c.loop-k.invariant.1.sized)

pub match_events-m-requires : goal.match_events-m-requires
match_events-m-requires c =
    let s = c in
    let len = s.args.memory in
    let sh = sheet_of s.args.s.now in
    let l = c.loop-k in
    let t = c.loop-k-test.true in
    let met = c.turn_at-turn.ensures in
    let h : l.k < sh.steps = subst (λ (n : ℕ). l.k < n) (all_steps s.requires.0) t in
    let few = turned_few (met_turned s.requires.0 t met s.requires.1 l.invariant.1.sized) in
    let n = c.count_events-count.ensures 0 in
    let all = events_count 0 c.turn_at-turn.result.access in
    let places = within_places (outlined_within s.requires.0) in
    (l.invariant.2.0, omega (arith, l.invariant.2.1, h, few, n, all, places), omega (arith, h, places), omega (arith, few, n, all))

pub overflow_add-k : goal.overflow_add-k
overflow_add-k c =
    let o = c.requires.0 in
    omega (arith, c.loop-k-test.true, all_steps o, within_places (outlined_within o))

pub loop-k-smaller : goal.loop-k-smaller
loop-k-smaller c = omega (arith, c.loop-k-test.true)

pub loop-k-preserved : goal.loop-k-preserved
loop-k-preserved c =
    let s = c in
    let len = s.args.memory in
    let sh = sheet_of s.args.s.now in
    let l = c.loop-k in
    let t = c.loop-k-test.true in
    let met = c.turn_at-turn.ensures in
    let h : l.k < sh.steps = subst (λ (n : ℕ). l.k < n) (all_steps s.requires.0) t in
    let few = turned_few (met_turned s.requires.0 t met s.requires.1 l.invariant.1.sized) in
    let a = c.turn_at-turn.result.access in
    let r = c.check_step-got in
    let n = c.count_events-count.ensures l.k in
    let ys = events_in s.args.trace.now in
    let step = the_step sh.step l.k in
    let ok = within_step sh (outlined_within s.requires.0) l.k h in
    let zero : r.result.stop.number ≡ 0 = omega (arith, c.if-stop-gt0.false) in
    let is = met_checked s.requires.0 t met r.ensures.value in
    let gives = met_gives s.requires.0 t met outcome_event in
    let listed = told_events l.k a _ n (r.ensures.told zero) ∙ sym gives in
    let types = ap (λ (x : StepCheck). x.types) is in
    let here = step_events sh.tensors l.types len l.k step in
    let rest = pass_rest (events_at sh len) sh len (l.k + 1) r.result.types in
    let on = pass_on (events_at sh len) sh len l.k l.types h types in
    let same = c.match_events-m.ensures ∙ ap (match_all ys l.m) listed in (
      omega (arith, t),
      record {
        sized = rw types (check_sized sh.edition sh.tensors l.types len step sh.edition sh.tensors.layouts sh.tensors.views ok l.invariant.1.sized);
        counted = l.invariant.1.counted + r.result.placed;
        same = checked_go sh.steps sh len l.k l.types l.invariant.1.counted r.result is h zero ∙ l.invariant.1.same;
      },
      (
        rw same (match_ordered ys l.m here l.invariant.2.0),
        rw same (omega (arith, l.invariant.2.1, match_count ys l.m here, few, events_count l.k a, ap length gives)),
      ),
      rw same (sym (match_append ys l.m here rest) ∙ ap (match_all ys l.m) (sym on) ∙ l.invariant.3),
      r.ensures.entries_len,
    )

pub returns : goal.returns
unfolding match_all
returns c =
    let s = c in
    let len = s.args.memory in
    let sh = sheet_of s.args.s.now in
    let l = c.loop-k in
    let last : sh.steps ≤ l.k = omega (arith, c.loop-k-test.false, all_steps s.requires.0) in
    let end = checked_end sh.steps sh len l.k l.types l.invariant.1.counted last in record {
      refusal_value = c.not_refused.ensures ∙ ap (λ (x : CheckAnswer). x.refusal) (end ∙ l.invariant.1.same);
      events_value = λ z. rw (pass_end (events_at sh len) sh len l.k l.types last) at l.invariant.3;
    }
