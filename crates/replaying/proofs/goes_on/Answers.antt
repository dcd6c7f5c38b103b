use Prim.Native.Nat.{◌<◌, ◌≤◌}
use mathlib.Core.Path.{sym, ap, ◌∙◌}
use lib.ListN.{length}
use borrow.Author.Tests.{le-ltb, lt-ltb}
use Rattle.numbers.specs.Laws.Choice.{stop, pass, tests}
use Rattle.traces.specs.Events.{same_event}
use Rattle.traces.specs.Numbered.{events_in}
use Rattle.traces.proofs.Laws.Numbered.{events_count, events_at_lem}
use Rattle.replaying.specs.Matching.{no_event, goes_on}
use Rattle.replaying.proofs.goes_on.Goals as goal

pub returns-then-index-m : goal.returns-then-index-m
unfolding goes_on
returns-then-index-m c = stop _ (search tests)

pub returns-then-trace-index : goal.returns-then-trace-index
unfolding goes_on
returns-then-trace-index c =
    let a = c.args in
    let s = a.trace.now in
    let past : length (events_in s) ≤ a.m.index = rw (events_count s) c.if-trace-index.true in
    pass (search tests) (stop _ (le-ltb _ _ past))

pub returns : goal.returns
unfolding goes_on
returns c =
    let a = c.args in
    let s = a.trace.now in
    let i = a.m.index in
    let some = c.if-trace-index.false in
    let here : i < length (events_in s) = rw (events_count s) some in
    pass (search tests)
    (pass (lt-ltb _ _ here) (c.same_event.ensures ∙ ap (same_event a.e) (c.event_in.ensures ∙ sym (events_at_lem s i no_event some))))
