use mathlib.Core.Path.{◌≡◌, refl, sym, ap, subst, ◌∙◌}
use mathlib.Core.List.{List}
use Prim.Native.Nat.{ℕ, ◌+◌, ◌-◌, ◌*◌, ◌<◌}
use lib.ListN.{length, length-append}
use lib.Seq.{sets}
use Rattle.sheet.specs.Sizes.{step_places}
use Rattle.sheet_ranges.specs.Steps.{the_step}
use Rattle.sheet_ranges.specs.Laws.Within.{within_places}
use Rattle.sheet_reader.specs.Parts.{sheet_of}
use Rattle.sheet_parts.specs.Laws.{outlined_within}
use Rattle.outcomes.specs.declared.Outcome.{Outcome}
use Rattle.registers.specs.declared.MatrixType.{MatrixType}
use Rattle.transfers.specs.Transfers.{outcome_of}
use Rattle.checking.specs.Steps.{step_types}
use Rattle.checking.specs.Laws.Met.{all_steps, met_turned}
use Rattle.records.specs.declared.Record.{Record}
use Rattle.records.specs.Records.{record_length, tape_numbers}
use Rattle.accepted.specs.Passes.{types_at, pass_rest}
use Rattle.accepted.specs.Laws.Clear.{met_gives}
use Rattle.accepted.specs.Laws.Elements.{at_step_lem, at_past}
use Rattle.accepted.specs.Laws.Rests.{rest_start, rest_step, rest_next, types_go, pass_start, pass_go, pass_end}
use Rattle.masks.specs.Masks.{bit_of, mask_of, mask_place}
use Rattle.masks.proofs.Laws.Written.{masks_none, masks_next, masks_rest}
use Rattle.access_tapes.specs.Writing.{Room, Wrote}
use Rattle.access_tapes.specs.Laws.Writing.{records_after}
use Rattle.translating.specs.Tapes.{step_records, sheet_records, tape_of}
use Rattle.translating.specs.Masks.{step_outcomes, sheet_outcomes, sheet_masks}
use Rattle.translating.proofs.Laws.{stepped, met_records, met_clear_turn}
use native.Mathlib.Omega.{arith}
use Rattle.translating.proofs.write_tape.Goals as goal

pub loop-k-init : goal.loop-k-init
unfolding tape_of types_at
loop-k-init c =
    let s = c in
    let a = s.args in
    let sh = sheet_of a.s.now in
    let e = c.empty_types-types.ensures in
    let t = pass_start (sheet_records sh a.memory) sh a.memory in (
      (omega arith, rw e (rest_start sh a.memory s.requires.outlined.2), e, c.no_entries-entries.ensures),
      (refl, rw (e, t) (omega (arith, s.requires.record_length_in_bounds)), rw (e, t) refl),
      (refl, masks_none (sheet_outcomes sh a.memory) a.masks.now),
    )

pub step_in-step-requires : goal.step_in-step-requires
step_in-step-requires c = (c.requires.outlined.0, c.loop-k-test.true)

pub write_turn-at-requires : goal.write_turn-at-requires
write_turn-at-requires c =
    let s = c in
    let a = s.args in
    let q = s.requires.outlined in
    let sh = sheet_of a.s.now in
    let w = outlined_within q.0 in
    let l = c.loop-k in
    let v = l.invariant in
    let m = stepped a.s.now l.types a.memory l.k c.step_in-step.ensures in
    let ok = (met_turned q.0 c.loop-k-test.true m q.1 v.0.1.sized).ok in
    let h = subst (λ (n : ℕ). l.k < n) (all_steps q.0) c.loop-k-test.true in
    let step = the_step sh.step l.k in
    let after = step_types l.types step in
    let rs = step_records sh.tensors l.types a.memory l.k step in
    let go = ap length (pass_go sh w a.memory q.1 l.k l.types h v.0.1 {after = after} refl (sheet_records sh a.memory)) in
    let both = length-append rs (pass_rest (sheet_records sh a.memory) sh a.memory (l.k + 1) after) in
    let room : Room l.tape l.at rs = omega (arith, v.1.1, v.1.0, go, both) in record {
      by_index = ((_, q.0), (a.given.edition, ok));
      clear_turn = (met_clear_turn m (rest_step sh w a.memory q.1 l.k l.types h v.0.1), v.0.3);
      k_lt_step_places = (omega (arith, h, within_places w), omega (arith, s.requires.mask_area_in_bounds, v.2.0));
      room = subst (λ (x : List Record). Room l.tape l.at x) (met_records m) room;
    }

pub step_types-after-requires : goal.step_types-after-requires
step_types-after-requires c =
    let s = c in
    let tensors = (sheet_of s.args.s.now).tensors in
    let l = c.loop-k in
    let m = stepped s.args.s.now l.types s.args.memory l.k c.step_in-step.ensures in
    let t = met_turned s.requires.outlined.0 c.loop-k-test.true m s.requires.outlined.1 l.invariant.0.1.sized in
    (s.args.given.edition, tensors.layouts, tensors.views, t.ok)

pub overflow_add-k : goal.overflow_add-k
overflow_add-k c = let q = c.requires.outlined.0 in omega (arith, c.loop-k-test.true, all_steps q, within_places (outlined_within q))

pub loop-k-smaller : goal.loop-k-smaller
loop-k-smaller c = omega (arith, c.loop-k-test.true)

pub loop-k-preserved : goal.loop-k-preserved
loop-k-preserved c =
    let s = c in
    let a = s.args in
    let q = s.requires.outlined in
    let sh = sheet_of a.s.now in
    let within = outlined_within q.0 in
    let l = c.loop-k in
    let v = l.invariant in
    let m = stepped a.s.now l.types a.memory l.k c.step_in-step.ensures in
    let h = subst (λ (n : ℕ). l.k < n) (all_steps q.0) c.loop-k-test.true in
    let w = c.write_turn-at in
    let step = the_step sh.step l.k in
    let so = c.step_types-after.ensures ∙ ap (step_types l.types) m.step in
    let rs = step_records sh.tensors l.types a.memory l.k step in
    let rest = pass_rest (sheet_records sh a.memory) sh a.memory (l.k + 1) c.step_types-after.result in
    let go = pass_go sh within a.memory q.1 l.k l.types h v.0.1 so (sheet_records sh a.memory) in
    let n = ap length go in
    let both = length-append rs rest in
    let wrote = subst (λ (x : List Record). Wrote l.tape w.new.tape l.at x w.result) (sym (met_records m)) w.ensures.wrote in
    let outcomes =
    sym (met_gives q.0 c.loop-k-test.true m (λ (i : ℕ). outcome_of))
    ∙ ap (λ (ts : List MatrixType). step_outcomes sh.tensors ts a.memory l.k step) v.0.2
    ∙ sym (at_step_lem (λ (i : ℕ). outcome_of) sh a.memory l.k h) in (
      (
        omega (arith, c.loop-k-test.true),
        rest_next sh within a.memory q.1 l.k l.types h v.0.1 so,
        types_go sh within a.memory q.1 l.k l.types h v.0.1 so v.0.2,
        w.ensures.entries_len,
      ),
      (
        w.auto.tape ∙ v.1.0,
        omega (arith, v.1.1, wrote.next, n, both),
        records_after l.tape l.at rs rest wrote
            ∙ ap (λ (x : List Record). sets l.tape (l.at * record_length) (tape_numbers x)) (sym go)
            ∙ v.1.2,
      ),
      (
        w.auto.masks ∙ v.2.0,
        masks_next (sheet_outcomes sh a.memory) a.masks.now l.k v.2.1
            (w.ensures.masks_after ∙ ap (λ (os : List Outcome). sets l.masks (mask_place l.k) (mask_of (bit_of os))) outcomes),
      ),
    )

pub clear_masks-requires : goal.clear_masks-requires
clear_masks-requires c =
    let s = c in
    let q = s.requires.outlined.0 in
    (omega (arith, all_steps q, within_places (outlined_within q)), omega arith, omega (arith, s.requires.mask_area_in_bounds, c.loop-k.invariant.2.0))

pub shape_of-tape : goal.shape_of-tape
shape_of-tape c = c.loop-k.invariant.1.0

pub shape_of-masks : goal.shape_of-masks
shape_of-masks c = c.clear_masks.auto.masks ∙ c.loop-k.invariant.2.0

pub returns : goal.returns
unfolding sheet_masks
returns c =
    let s = c in
    let a = s.args in
    let q = s.requires.outlined.0 in
    let sh = sheet_of a.s.now in
    let l = c.loop-k in
    let left = c.loop-k-test.false in
    let steps = all_steps q in
    let none = pass_end (sheet_records sh a.memory) sh a.memory l.k l.types (omega (arith, left, steps)) in
    let last : l.k ≡ a.given.steps = omega (arith, l.invariant.0.0, left) in
    let all : a.given.steps + (step_places - a.given.steps) ≡ step_places = omega (arith, steps, within_places (outlined_within q)) in record {
      tape_after = rw none at l.invariant.1.2;
      masks_after = rw all at (masks_rest (sheet_outcomes sh a.memory) a.masks.now a.given.steps (step_places - a.given.steps)
          (λ k h. at_past (λ (i : ℕ). outcome_of) sh a.memory k (omega (arith, h, steps))) (rw last at l.invariant.2.1) c.clear_masks.ensures);
    }
