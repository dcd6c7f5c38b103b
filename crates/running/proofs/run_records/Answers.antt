use Prim.Native.Nat.{◌-◌}
use mathlib.Core.Path.{◌≡◌, refl, ap, ◌∙◌}
use mathlib.Core.Bool.{true}
use native.Mathlib.Nat.{sub-zero}
use native.Mathlib.Omega.{arith}
use lib.ListN.{length}
use Rattle.sheet_reader.specs.Parts.{sheet_of}
use Rattle.sheet_parts.specs.Laws.{outlined_within}
use Rattle.transfers.specs.Acts.{state}
use Rattle.carrying.specs.Steps.{machine_of}
use Rattle.records.specs.declared.Decoded.{Decoded}
use Rattle.judging.specs.Judging.{tape_record, decoded_ok}
use Rattle.judging.specs.Laws.Named.{named_placed, named_ok}
use Rattle.running.specs.Running.{ran_decoded}
use Rattle.running.proofs.Laws.Records.{named_ran}
use Rattle.running.proofs.Laws.Turns.{ready_start, turn_ok, turn_next, turns_end}
use Rattle.running.proofs.run_records.Goals as goal
use Rattle.running.proofs.run_records.Goals.{After-read_record-d}

-- the record that a turn reads is in range
in_range : (c : After-read_record-d) → let a = c.args in decoded_ok (sheet_of a.s.now) c.loop-k.types (length a.memory.now) c.read_record-d.result ≡ true
in_range c =
    let a = c.args in
    let i = c.loop-k in
    rw c.read_record-d.ensures.0 (turn_ok a.records (sheet_of a.s.now) (length a.memory.now) (tape_record a.tape.now) i.k _ _ i.invariant.2 c.loop-k-test.true)

pub loop-k-init : goal.loop-k-init
loop-k-init c =
    let s = c in
    let a = s.args in
    (omega arith, refl, rw (c.no_counts-counts.ensures, sub-zero, c.empty_types-types.ensures, s.requires.elements_value) (ready_start a.records (sheet_of a.s.now) (tape_record a.tape.now) a.memory.now s.requires.tape_value))

pub overflow_mul-k : goal.overflow_mul-k
overflow_mul-k c = omega (arith, c.loop-k-test.true, c.requires.outlined.1)

pub read_record-d-requires : goal.read_record-d-requires
read_record-d-requires c = omega (arith, c.loop-k-test.true, c.requires.outlined.2)

pub step_named-named-requires : goal.step_named-named-requires
step_named-named-requires c = c.requires.outlined.0

pub run_decoded-done-requires : goal.run_decoded-done-requires
run_decoded-done-requires c =
    let s = c in
    let o = s.requires.outlined.0 in
    let i = c.loop-k in
    let r = i.invariant.2 in
    let d = c.read_record-d in
    let so = c.step_named-named.ensures in record {
      sized = (r.formed.sized, d.ensures.1, omega (arith, r.few, c.loop-k-test.true, s.requires.outlined.1));
      by_index = (s.args.given.edition, s.args.given.steps, named_placed o d.result so, rw r.kept (named_ok o d.result so i.types (length s.args.memory.now) ∙ in_range (goal.at.run_decoded-done-requires c).After-read_record-d));
      past = (r.formed.past, r.formed.places, i.invariant.1);
    }

pub overflow_add-k : goal.overflow_add-k
overflow_add-k c = omega (arith, c.loop-k-test.true, c.requires.outlined.1)

pub loop-k-smaller : goal.loop-k-smaller
loop-k-smaller c = omega (arith, c.loop-k-test.true)

pub loop-k-preserved : goal.loop-k-preserved
loop-k-preserved c =
    let s = c in
    let a = s.args in
    let sh = sheet_of a.s.now in
    let len = length a.memory.now in
    let i = c.loop-k in
    let l = c.loop-k-test.true in
    let d = c.read_record-d in
    let e = c.run_decoded-done.ensures in
    let m = machine_of i.types (state i.elements i.memory i.counts) in (
      omega (arith, l),
      e.block_len,
      turn_next a.records sh len (tape_record a.tape.now) i.k _ _ i.invariant.2 l (outlined_within s.requires.outlined.0)
          (e.counts_after sh.tensors
          ∙ named_ran sh i.types len d.result c.step_named-named.ensures (in_range (goal.at.loop-k-preserved c).After-read_record-d) m
          ∙ ap (λ (x : Decoded). ran_decoded sh x m) d.ensures.0),
    )

pub shape_of-memory : goal.shape_of-memory
shape_of-memory c = c.loop-k.invariant.2.kept

pub returns : goal.returns
returns c =
    let i = c.loop-k in
    let a = c.args in
    turns_end a.records (sheet_of a.s.now) (length a.memory.now) (tape_record a.tape.now) i.k _ _ i.invariant.2 c.loop-k-test.false
