use Prim.Native.Nat.{ℕ, ◌-◌, ◌≤◌}
use mathlib.Core.Path.{◌≡◌}
use mathlib.Core.List.{[], ◌∷◌}
use Rattle.numbers.specs.Lists.{each}
use Rattle.traces.specs.Numbered.{events_in}
use Rattle.expected.specs.Listed.{listed_event}
use Rattle.replaying.specs.Matching.{match_all}
use Rattle.replaying.proofs.match_events.Given as goal

abbrev pub invariant-loop-k : goal.invariant-loop-k
invariant-loop-k l = (l.k ≤ l.count) × (l.m ≡ match_all (events_in l.trace) l.initial.m (each l.k (λ (e : ℕ). listed_event l.step l.entries e ∷ [])))

abbrev pub decreases-loop-k : goal.decreases-loop-k
decreases-loop-k l = l.count - l.k
