use mathlib.Core.Path.{◌≡◌, sym}
use Prim.Native.Nat.{ℕ, ◌^◌, ◌<◌}
use lib.ListN.{get_or}
use Rattle.runs.proofs.Laws.Ranges.{held_small, ending_within, held_within}
use Rattle.runs.proofs.Laws.Writing.{held_none, held_more, ending_is, count_records, written_none, written_more, written_all, written_place, room_more, room_last}
use Rattle.accepted.specs.Accepted.{entries_outcome}
use Rattle.std.proofs.lemmas.List.{length-take}
use Rattle.access_tapes.proofs.Laws.{entry_fits, met}
use native.Mathlib.Omega.{arith}
use Rattle.access_tapes.proofs.write_runs.Goals as goal
use Rattle.access_tapes.proofs.write_runs.Goals.{After-outcome_of-o}

pub loop-k-init : goal.loop-k-init
loop-k-init c = (sym (held_none _), written_none _ _ _ _ _)

met_here : (c : After-outcome_of-o) → c.outcome_of-o.result ≡ entries_outcome c.args.entries.now c.args.fill c.loop-k.k
met_here c = met c.args.entries.now c.args.n c.loop-k.k c.args.fill c.loop-k-test.true c.outcome_of-o.ensures

pub next_run-t-requires : goal.next_run-t-requires
next_run-t-requires c =
    let a = c.args in
    let l = c.loop-k in
    let small : a.fill < 2 ^ 32 = omega arith in
    let near = entry_fits a.fill small in record {
      small_run = rw l.invariant.0 (held_small (entries_outcome a.entries.now a.fill) l.k (λ i h. near (get_or a.entries.now i 0)));
      k_lt_matrix_places = (omega (arith, c.requires.0, length-take {A = ℕ}), rw (met_here c) (near (get_or a.entries.now l.k 0)));
    }

pub write_run-at-requires : goal.write_run-at-requires
write_run-at-requires c =
    let a = c.args in
    let l = c.loop-k in
    let h : l.k < a.n = omega (arith, length-take {A = ℕ}) in
    let es = a.entries.now in
    let f = entries_outcome es a.fill in
    let small : a.fill < 2 ^ 32 = omega arith in
    let room = rw (count_records a.load a.register f a.n) at c.requires.2 in
    let o = met_here (goal.at.write_run-at-requires c).After-outcome_of-o in
    rw (ending_is f l.k l.invariant.0 o c.next_run-t.ensures) (record {
      record_length_in_bounds = room_more a.load a.register f a.start a.tape.now l.k l.tape l.at l.invariant.1 a.n h room;
      all_in_range = ending_within a.load a.register c.requires.1 f a.n (omega (arith, c.requires.0)) (λ i q. entry_fits a.fill small (get_or es i 0)) l.k (omega (arith, h));
    })

pub loop-k-preserved : goal.loop-k-preserved
loop-k-preserved c =
    let a = c.args in
    let l = c.loop-k in
    let o = met_here (goal.at.loop-k-preserved c).After-outcome_of-o in
    let f = entries_outcome a.entries.now a.fill in
    let t = c.next_run-t.ensures in
    let d = ending_is f l.k l.invariant.0 o t in
    let w = c.write_run-at.ensures in (
      held_more f l.k l.invariant.0 o t,
      written_more a.load a.register f a.start a.tape.now l.k l.tape l.at l.invariant.1
          c.write_run-at.new.tape c.write_run-at.result (rw d at w.0) (rw d at w.1),
    )

pub write_run-requires : goal.write_run-requires
write_run-requires c =
    let a = c.args in
    let l = c.loop-k in
    let es = a.entries.now in
    let f = entries_outcome es a.fill in
    let small : a.fill < 2 ^ 32 = omega arith in
    let e : l.k ≡ a.n = omega (arith, length-take {A = ℕ}) in
    let room = rw (count_records a.load a.register f a.n) at c.requires.2 in
    rw l.invariant.0 (record {
      record_length_in_bounds = room_last a.load a.register f a.start a.tape.now l.k l.tape l.at l.invariant.1 (rw e room);
      all_in_range = held_within a.load a.register c.requires.1 f a.n (omega (arith, c.requires.0)) (λ i q. entry_fits a.fill small (get_or es i 0)) l.k (omega (arith, e));
    })

pub returns : goal.returns
returns c =
    let a = c.args in
    let l = c.loop-k in
    let f = entries_outcome a.entries.now a.fill in
    let e : l.k ≡ a.n = omega (arith, length-take {A = ℕ}) in
    let w = c.write_run.ensures in
    let place =
    written_place a.load a.register f a.start a.tape.now l.k l.tape l.at l.invariant.1
    c.write_run.result (rw l.invariant.0 at w.0) in
    rw (← e)
    (record {
      next = rw (count_records a.load a.register f l.k) place;
      numbers =
          written_all a.load a.register f a.start a.tape.now l.k l.tape l.at l.invariant.1
          c.write_run.new.tape (rw l.invariant.0 at w.1);
    })
