use mathlib.Core.Path.{◌≡◌}
use mathlib.Core.List.{[], ◌∷◌}
use Prim.Native.Nat.{ℕ}
use lib.Seq.{sets}
use Rattle.numbers.specs.Lists.{each}
use Rattle.traces.specs.Writing.{trace_bytes}
use Rattle.expected.specs.Listed.{listed_event}
use Rattle.tracing.proofs.write_events.Given as goal

abbrev pub invariant-loop-k : goal.invariant-loop-k
invariant-loop-k l = l.out ≡ sets l.initial.out l.at (trace_bytes (each l.k (λ (e : ℕ). listed_event l.step l.entries e ∷ [])))
