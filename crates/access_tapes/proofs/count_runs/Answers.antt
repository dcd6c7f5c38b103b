use mathlib.Core.Path.{◌≡◌, ap, ◌∙◌}
use Prim.Native.Nat.{ℕ, ◌+◌}
use lib.ListN.{length, get_or}
use Rattle.runs.specs.declared.Run.{Run}
use Rattle.runs.specs.Runs.{emit, runs}
use Rattle.runs.proofs.Laws.Ranges.{held_small}
use Rattle.runs.proofs.Laws.Writing.{held_more, ending_is, count_more, count_all}
use Rattle.accepted.specs.Accepted.{entries_outcome}
use Rattle.std.proofs.lemmas.List.{length-take}
use Rattle.access_tapes.proofs.Laws.{entry_fits, met}
use Rattle.access_tapes.proofs.Fills.{runs_count}
use native.Mathlib.Omega.{arith}
use Rattle.access_tapes.proofs.count_runs.Goals as goal
use Rattle.access_tapes.proofs.count_runs.Goals.{After-outcome_of-o}

met_here : (c : After-outcome_of-o) → c.outcome_of-o.result ≡ entries_outcome c.args.entries.now 0 c.loop-k.k
met_here c = met c.args.entries.now c.args.n c.loop-k.k 0 c.loop-k-test.true c.outcome_of-o.ensures

pub next_run-t-requires : goal.next_run-t-requires
next_run-t-requires c =
    let a = c.args in
    let l = c.loop-k in
    let near = entry_fits 0 (omega arith) in record {
      small_run = rw l.invariant.0 (held_small (entries_outcome a.entries.now 0) l.k (λ i h. near (get_or a.entries.now i 0)));
      k_lt_matrix_places = (omega (arith, length-take {A = ℕ}), rw (met_here c) (near (get_or a.entries.now l.k 0)));
    }

pub loop-k-preserved : goal.loop-k-preserved
loop-k-preserved c =
    let a = c.args in
    let l = c.loop-k in
    let f = entries_outcome a.entries.now 0 in
    let o = met_here (goal.at.loop-k-preserved c).After-outcome_of-o in
    let t = c.next_run-t.ensures in
    let d = ending_is f l.k l.invariant.0 o t in (
      held_more f l.k l.invariant.0 o t,
      omega (arith, count_more f l.k, l.invariant.1, c.records_of-records.ensures, ap (λ (r : Run). length (emit r)) d),
    )

pub returns : goal.returns
returns c = λ fill.
    let a = c.args in
    let l = c.loop-k in
    let e : l.k ≡ a.n = omega (arith, length-take {A = ℕ}) in
    let all : l.records + c.records_of.result ≡ length (runs (entries_outcome a.entries.now 0) l.k) =
    omega (arith, l.invariant.1, c.records_of.ensures, count_all (entries_outcome a.entries.now 0) l.k, ap (λ (r : Run). length (emit r)) l.invariant.0) in
    rw (← e) (all ∙ runs_count a.entries.now 0 fill l.k)
