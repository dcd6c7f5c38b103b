use Prim.Native.Nat.{ℕ, ◌-◌, ◌<◌, ◌≤◌}
use Rattle.sheet_ranges.specs.Steps.{the_step}
use Rattle.sheet_reader.specs.Parts.{sheet_of, Outlined}
use Rattle.checking.specs.Steps.{checked_step}
use mathlib.Core.Path.{◌≡◌, ap, subst, ◌∙◌}
use Rattle.sheet.specs.Sizes.{matrix_places, step_places}
use Rattle.sheet.specs.declared.Sheet.{Sheet}
use Rattle.sheet_ranges.specs.Laws.Within.{within_places}
use Rattle.sheet_parts.specs.Laws.{outlined_within}
use Rattle.registers.specs.Laws.Sized.{sized_empty}
use Rattle.checking.specs.Checking.{checked, check_refused}
use Rattle.checking.specs.Laws.Steps.{check_sized, step_placed}
use Rattle.checking.specs.Laws.Turns.{within_step, checked_start, checked_go, checked_stop, checked_end}
use Rattle.checking.specs.Laws.Met.{all_steps, met_turned, met_checked}
use native.Mathlib.Omega.{arith}
use Rattle.checking.proofs.checks.check.Goals as goal
use Rattle.checking.proofs.checks.check.Goals.{After-check_step-got}

-- a step checked
module _ (c : After-check_step-got) where
  abbrev sh : Sheet
  sh = sheet_of c.args.s.now

  abbrev memory : ℕ
  memory = c.args.memory

  abbrev k : ℕ
  k = c.loop-k.k

  abbrev read : Outlined c.args.s.now c.args.parts.now c.args.given
  read = c.requires.0

  here : k < sh.steps
  here = subst (λ (n : ℕ). k < n) (all_steps read) c.loop-k-test.true

  is : c.check_step-got.result ≡ checked_step sh.edition sh.tensors c.loop-k.types memory (the_step sh.step k)
  is = met_checked read c.loop-k-test.true c.turn_at-turn.ensures c.check_step-got.ensures.value

  few : c.check_step-got.result.placed ≤ matrix_places
  few = rw is (step_placed _ _ c.loop-k.types memory _ c.loop-k.invariant.1)

  room : c.args.given.steps ≤ step_places
  room = omega (arith, all_steps read, within_places (outlined_within read))

pub loop-k-init : goal.loop-k-init
loop-k-init c =
    let s = c.args in
    let e = c.empty_types-types.ensures in
    (omega arith, rw e sized_empty, omega arith, c.no_entries-entries.ensures, rw e (checked_start (sheet_of s.s.now) s.memory))

pub turn_at-turn-requires : goal.turn_at-turn-requires
turn_at-turn-requires c = (c.requires.0, c.loop-k-test.true)

pub check_step-got-requires : goal.check_step-got-requires
check_step-got-requires c =
    let s = c in
    let i = c.loop-k.invariant in
    ((_, met_turned s.requires.0 c.loop-k-test.true c.turn_at-turn.ensures s.requires.1 i.1), i.3)

pub returns-then-stop-gt0 : goal.returns-then-stop-gt0
returns-then-stop-gt0 c =
    let k = (goal.at.returns-then-stop-gt0 c).After-check_step-got in
    let i = c.loop-k in
    c.check_refused.ensures
    ∙ ap check_refused c.refusal_at.ensures
    ∙ checked_stop (sh k).steps (sh k) (memory k) i.k i.types i.count k.check_step-got.result (is k) (here k) (omega (arith, c.if-stop-gt0.true))
    ∙ i.invariant.4

pub overflow_add-count : goal.overflow_add-count
overflow_add-count c =
    let k = (goal.at.overflow_add-count c).After-check_step-got in
    let i = c.loop-k.invariant in
    omega (arith, few k, i.0, i.2, room k)

pub overflow_add-k : goal.overflow_add-k
overflow_add-k c =
    let k = (goal.at.overflow_add-k c).After-check_step-got in
    omega (arith, c.loop-k.invariant.0, room k)

pub loop-k-smaller : goal.loop-k-smaller
loop-k-smaller c = omega (arith, c.loop-k-test.true)

pub loop-k-preserved : goal.loop-k-preserved
loop-k-preserved c =
    let k = (goal.at.loop-k-preserved c).After-check_step-got in
    let i = c.loop-k in (
      omega (arith, c.loop-k-test.true),
      rw (is k) (check_sized _ _ i.types (memory k) _ _ _ _ (within_step (sh k) (outlined_within (read k)) i.k (here k)) i.invariant.1),
      omega (arith, few k, i.invariant.2),
      k.check_step-got.ensures.entries_len,
      checked_go (sh k).steps (sh k) (memory k) i.k i.types i.count k.check_step-got.result (is k) (here k) (omega (arith, c.if-stop-gt0.false)) ∙ i.invariant.4,
    )

pub returns : goal.returns
returns c =
    let i = c.loop-k in
    let s = c in
    rw c.not_refused.ensures
    (checked_end (sheet_of s.args.s.now).steps (sheet_of s.args.s.now) s.args.memory i.k i.types i.count (omega (arith, c.loop-k-test.false, all_steps s.requires.0)) ∙ i.invariant.4)
