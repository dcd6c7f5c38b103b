use Prim.Native.Nat.{ℕ, ◌+◌, ◌-◌, ◌<◌, ◌≤◌}
use mathlib.Core.Path.{◌≡◌, sym, ap, subst, ◌∙◌}
use lib.ListN.{length, length-append}
use Rattle.refusals.specs.declared.Refusal.{Refusal}
use Rattle.sheet.specs.Sizes.{step_places, matrix_places}
use Rattle.sheet.specs.declared.Sheet.{Sheet}
use Rattle.sheet_ranges.specs.Steps.{the_step}
use Rattle.sheet_ranges.specs.Laws.Within.{within_places}
use Rattle.sheet_reader.specs.Parts.{sheet_of, Outlined}
use Rattle.sheet_parts.specs.Laws.{outlined_within}
use Rattle.registers.specs.Laws.Sized.{sized_empty}
use Rattle.checking.specs.Steps.{checked_step}
use Rattle.checking.specs.Checking.{checked}
use Rattle.checking.specs.Laws.Steps.{check_sized, step_placed}
use Rattle.checking.specs.Laws.Turns.{within_step, checked_start, checked_go, checked_stop, checked_end}
use Rattle.checking.specs.Laws.Met.{all_steps, met_turned, met_checked}
use Rattle.checking.specs.declared.CheckAnswer.{CheckAnswer}
use Rattle.checking.specs.declared.StepCheck.{StepCheck}
use Rattle.accepted.specs.Passes.{pass_rest}
use Rattle.accepted.specs.Laws.Rests.{pass_start, pass_on, pass_end}
use Rattle.translating.specs.Tapes.{step_records, sheet_records, tape_of}
use Rattle.translating.proofs.Laws.{met_few, met_records}
use native.Mathlib.Omega.{arith}
use Rattle.translating.proofs.count_tape.Goals as goal
use Rattle.translating.proofs.count_tape.Goals.{After-check_step-got}

-- a step checked
module _ (c : After-check_step-got) where
  abbrev sh : Sheet
  sh = sheet_of c.args.s.now

  abbrev memory : ℕ
  memory = c.args.memory

  abbrev k : ℕ
  k = c.loop-k.k

  abbrev read : Outlined c.args.s.now c.args.parts.now c.args.given
  read = c.requires.0

  here : k < sh.steps
  here = subst (λ (n : ℕ). k < n) (all_steps read) c.loop-k-test.true

  is : c.check_step-got.result ≡ checked_step sh.edition sh.tensors c.loop-k.types memory (the_step sh.step k)
  is = met_checked read c.loop-k-test.true c.turn_at-turn.ensures c.check_step-got.ensures.value

  few : c.check_step-got.result.placed ≤ matrix_places
  few = rw is (step_placed _ _ c.loop-k.types memory _ c.loop-k.invariant.0.1)

  room : c.args.given.steps ≤ step_places
  room = omega (arith, all_steps read, within_places (outlined_within read))

  -- its records, and those of the steps after it
  next : length (pass_rest (sheet_records sh memory) sh memory k c.loop-k.types)
      ≡ length (step_records sh.tensors c.loop-k.types memory k (the_step sh.step k)) + length (pass_rest (sheet_records sh memory) sh memory (k + 1) c.check_step-got.result.types)
  next =
      ap length (pass_on (sheet_records sh memory) sh memory k c.loop-k.types here (ap (λ (x : StepCheck). x.types) is))
      ∙ length-append (step_records sh.tensors c.loop-k.types memory k (the_step sh.step k)) (pass_rest (sheet_records sh memory) sh memory (k + 1) c.check_step-got.result.types)

pub loop-k-init : goal.loop-k-init
unfolding tape_of
loop-k-init c =
    let a = c.args in
    let sh = sheet_of a.s.now in
    let e = c.empty_types-types.ensures in
    let t = ap length (pass_start (sheet_records sh a.memory) sh a.memory) in (
      (omega arith, rw e sized_empty, c.no_entries-entries.ensures),
      (omega arith, rw e (checked_start sh a.memory)),
      (omega arith, rw e (omega (arith, t))),
    )

pub turn_at-turn-requires : goal.turn_at-turn-requires
turn_at-turn-requires c = (c.requires.0, c.loop-k-test.true)

pub check_step-got-requires : goal.check_step-got-requires
check_step-got-requires c =
    let s = c in
    let i = c.loop-k.invariant in
    ((_, met_turned s.requires.0 c.loop-k-test.true c.turn_at-turn.ensures s.requires.1 i.0.1), i.0.2)

pub returns-then-stop-gt0 : goal.returns-then-stop-gt0
returns-then-stop-gt0 c =
    let k = (goal.at.returns-then-stop-gt0 c).After-check_step-got in
    let i = c.loop-k in
    let e = c.refusal_at.ensures in
    let stop = checked_stop (sh k).steps (sh k) (memory k) i.k i.types i.count k.check_step-got.result (is k) (here k) (omega (arith, c.if-stop-gt0.true)) in record {
      refusal_value = e ∙ ap (λ (x : CheckAnswer). x.refusal) (stop ∙ i.invariant.1.1);
      count_value = λ z. absurd (omega (arith, ap (λ (x : Refusal). x.number) e, z, c.if-stop-gt0.true));
    }

pub count_step-records-requires : goal.count_step-records-requires
count_step-records-requires c =
    let k = (goal.at.count_step-records-requires c).After-check_step-got in
    let i = c.loop-k in
    let zero : k.check_step-got.result.stop.number ≡ 0 = omega (arith, c.if-stop-gt0.false) in
    (met_few c.turn_at-turn.ensures i.invariant.0.1, k.check_step-got.ensures.told zero)

pub overflow_add-records : goal.overflow_add-records
overflow_add-records c =
    let i = c.loop-k.invariant in
    omega (arith, i.2.0, i.0.0, c.count_step-records.ensures.upper_bound, room (goal.at.overflow_add-records c).After-check_step-got)

pub overflow_add-count : goal.overflow_add-count
overflow_add-count c =
    let k = (goal.at.overflow_add-count c).After-check_step-got in
    let i = c.loop-k.invariant in
    omega (arith, few k, i.0.0, i.1.0, room k)

pub overflow_add-k : goal.overflow_add-k
overflow_add-k c = omega (arith, c.loop-k.invariant.0.0, room (goal.at.overflow_add-k c).After-check_step-got)

pub loop-k-smaller : goal.loop-k-smaller
loop-k-smaller c = omega (arith, c.loop-k-test.true)

pub loop-k-preserved : goal.loop-k-preserved
loop-k-preserved c =
    let k = (goal.at.loop-k-preserved c).After-check_step-got in
    let i = c.loop-k in
    let n = c.count_step-records.ensures in
    let same = n.by_index i.k ∙ sym (ap length (met_records c.turn_at-turn.ensures)) in (
      (
        omega (arith, c.loop-k-test.true),
        rw (is k) (check_sized _ _ i.types (memory k) _ _ _ _ (within_step (sh k) (outlined_within (read k)) i.k (here k)) i.invariant.0.1),
        k.check_step-got.ensures.entries_len,
      ),
      (
        omega (arith, few k, i.invariant.1.0),
        checked_go (sh k).steps (sh k) (memory k) i.k i.types i.count k.check_step-got.result (is k) (here k) (omega (arith, c.if-stop-gt0.false)) ∙ i.invariant.1.1,
      ),
      (omega (arith, n.upper_bound, i.invariant.2.0), omega (arith, i.invariant.2.1, same, next k)),
    )

pub returns : goal.returns
returns c =
    let i = c.loop-k in
    let s = c in
    let sh = sheet_of s.args.s.now in
    let last : sh.steps ≤ i.k = omega (arith, c.loop-k-test.false, all_steps s.requires.0) in
    let end = checked_end sh.steps sh s.args.memory i.k i.types i.count last ∙ i.invariant.1.1 in
    let none = ap length (pass_end (sheet_records sh s.args.memory) sh s.args.memory i.k i.types last) in record {
      refusal_value = c.not_refused.ensures ∙ ap (λ (x : CheckAnswer). x.refusal) end;
      count_value = λ z. (ap (λ (x : CheckAnswer). x.count) end, omega (arith, i.invariant.2.1, none));
    }
