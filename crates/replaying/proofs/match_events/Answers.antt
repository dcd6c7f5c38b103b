use Prim.Native.Nat.{ℕ, ◌-◌}
use mathlib.Core.Path.{◌≡◌, refl, ◌∙◌}
use mathlib.Core.List.{[], ◌∷◌}
use lib.ListN.{length}
use Rattle.numbers.specs.Lists.{each}
use Rattle.numbers.specs.Laws.Joins.{length_each}
use Rattle.traces.specs.Numbered.{events_in}
use Rattle.expected.specs.Listed.{listed_event, listed_events}
use Rattle.replaying.proofs.Laws.Matching.{match_none, match_more, match_count, match_ordered}
use native.Mathlib.Omega.{arith}
use Rattle.replaying.proofs.match_events.Goals as goal

pub loop-k-init : goal.loop-k-init
loop-k-init c = (omega arith, match_none _ _ _)

pub listed_event-e-requires : goal.listed_event-e-requires
listed_event-e-requires c =
    let s = c in
    (omega (arith, s.requires.2), omega (arith, c.loop-k-test.true, s.requires.3))

pub match_event-m-requires : goal.match_event-m-requires
match_event-m-requires c =
    let s = c in
    let a = s.args in
    let l = c.loop-k in
    let passed = each l.k (λ (e : ℕ). listed_event a.step a.entries.now e ∷ []) in
    let ys = events_in a.trace.now in
    let n : length passed ≡ l.k = length_each 1 l.k (λ (e : ℕ). listed_event a.step a.entries.now e ∷ []) (λ e h. refl) ∙ omega arith in
    rw l.invariant.1 (match_ordered ys a.before passed s.requires.0, omega (arith, match_count ys a.before passed, n, c.loop-k-test.true, s.requires.1))

pub overflow_add-k : goal.overflow_add-k
overflow_add-k c = omega (arith, c.loop-k-test.true)

pub loop-k-smaller : goal.loop-k-smaller
loop-k-smaller c = omega (arith, c.loop-k-test.true)

pub loop-k-preserved : goal.loop-k-preserved
loop-k-preserved c =
    let a = c.args in
    let l = c.loop-k in (
      omega (arith, c.loop-k-test.true),
      c.match_event-m.ensures
          ∙ rw (l.invariant.1, c.listed_event-e.ensures) (match_more (events_in a.trace.now) a.before (listed_event a.step a.entries.now) l.k),
    )

pub returns : goal.returns
unfolding listed_events
returns c =
    let l = c.loop-k in
    let e : l.k ≡ c.args.count = omega (arith, l.invariant.0, c.loop-k-test.false) in
    rw e at l.invariant.1
