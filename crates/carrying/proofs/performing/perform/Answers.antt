use Prim.Native.Nat.{ℕ, ◌-◌, ◌<◌, ◌≤◌}
use mathlib.Core.Path.{sym, ap, subst, ◌∙◌}
use native.Mathlib.Nat.{sub-zero}
use Rattle.sheet.specs.Sizes.{step_places}
use Rattle.sheet.specs.declared.Sheet.{Sheet}
use Rattle.sheet.specs.declared.Step.{Step}
use Rattle.sheet_ranges.specs.Laws.Within.{within_places}
use Rattle.sheet_reader.specs.Parts.{sheet_of}
use Rattle.sheet_parts.specs.Laws.{outlined_within}
use Rattle.transfers.specs.Acts.{state}
use Rattle.checking.specs.Laws.Met.{all_steps, the_edition, met_access, met_turned}
use Rattle.carrying.specs.Steps.{Machine, machine_of, performed_step}
use Rattle.carrying.specs.Machines.{Accepted}
use Rattle.carrying.specs.Laws.Loops.{ready_start, turn_accepted, turn_next, turns_end}
use native.Mathlib.Omega.{arith}
use Rattle.carrying.proofs.performing.perform.Goals as goal
use Rattle.carrying.proofs.performing.perform.Goals.{After-turn_at-turn}

-- the step that a turn comes to
module _ (c : After-turn_at-turn) where
  abbrev sh : Sheet
  sh = sheet_of c.args.s.now

  abbrev k : ℕ
  k = c.loop-k.k

  abbrev before : Machine
  before = machine_of c.loop-k.types (state c.loop-k.elements c.loop-k.memory c.loop-k.counts)

  here : k < sh.steps
  here = subst (λ (n : ℕ). k < n) (all_steps c.requires.outlined.0) c.loop-k-test.true

  room : c.args.given.steps ≤ step_places
  room = omega (arith, all_steps c.requires.outlined.0, within_places (outlined_within c.requires.outlined.0))

  accepted : Accepted c.args.given.edition sh.tensors c.turn_at-turn.result.step before
  accepted =
      subst (λ (e : ℕ). Accepted e sh.tensors c.turn_at-turn.result.step before) (sym (the_edition c.requires.outlined.0))
      (subst (λ (x : Step). Accepted sh.edition sh.tensors x before) (sym c.turn_at-turn.ensures.step) (turn_accepted sh k before _ here c.loop-k.invariant.2))

pub loop-k-init : goal.loop-k-init
loop-k-init c =
    let s = c in
    (omega arith, c.no_entries-entries.ensures, rw (c.no_counts-counts.ensures, sub-zero, c.empty_types-types.ensures, s.requires.elements_value) (ready_start (sheet_of s.args.s.now) s.args.memory.now s.requires.outlined.2))

pub turn_at-turn-requires : goal.turn_at-turn-requires
turn_at-turn-requires c = (c.requires.outlined.0, c.loop-k-test.true)

pub perform_step-done-requires : goal.perform_step-done-requires
perform_step-done-requires c =
    let k = (goal.at.perform_step-done-requires c).After-turn_at-turn in
    let s = c in
    let i = c.loop-k in
    let r = i.invariant.2 in
    let t = k.turn_at-turn.ensures in
    let h = c.loop-k-test.true in
    let o = s.requires.outlined.0 in record {
      placed_bound = (omega (arith, r.few, h, room k), i.invariant.1, r.formed);
      by_index = (_, (_, (met_turned o h t (rw r.kept s.requires.outlined.1) r.formed.sized, accepted k)));
    }

pub overflow_add-k : goal.overflow_add-k
overflow_add-k c = let k = (goal.at.overflow_add-k c).After-turn_at-turn in omega (arith, c.loop-k-test.true, room k)

pub loop-k-smaller : goal.loop-k-smaller
loop-k-smaller c = omega (arith, c.loop-k-test.true)

pub loop-k-preserved : goal.loop-k-preserved
loop-k-preserved c =
    let k = (goal.at.loop-k-preserved c).After-turn_at-turn in
    let s = c in
    let i = c.loop-k in
    let e = c.perform_step-done.ensures in
    let t = k.turn_at-turn.ensures in
    let h = c.loop-k-test.true in
    let o = s.requires.outlined.0 in (
      omega (arith, h),
      e.entries_len,
      turn_next (sh k) i.k (before k) _ (here k) i.invariant.2 (outlined_within o)
          (e.counts_after (sh k).tensors (met_access o h t) ∙ ap (λ (x : Step). performed_step (sh k).tensors x (before k)) t.step),
    )

pub shape_of-memory : goal.shape_of-memory
shape_of-memory c = c.loop-k.invariant.2.kept

pub returns : goal.returns
returns c =
    let i = c.loop-k in
    let s = c in
    turns_end (sheet_of s.args.s.now) i.k _ _ (omega (arith, c.loop-k-test.false, all_steps s.requires.outlined.0)) i.invariant.2
