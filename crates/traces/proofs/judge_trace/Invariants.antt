use Prim.Native.Nat.{ℕ, ◌+◌, ◌-◌, ◌≤◌, ◌<◌}
use mathlib.Core.Path.{◌≡◌}
use mathlib.Core.List.{List}
use lib.ListN.{length}
use Rattle.traces.specs.Reading.{read_from, read_trace}
use Rattle.traces.specs.declared.Previous.{Previous}
use Rattle.traces.proofs.judge_trace.Given as goal

-- what is left to read, from a byte after an event, is refused as the whole is
abbrev pub Left : List ℕ → ℕ → Previous → Type 0
Left s at previous = (at ≤ length s) × ((f : ℕ) × ((length s < at + f) × ((read_from f s at previous).refusal ≡ (read_trace s).refusal)))

abbrev pub invariant-loop-c : goal.invariant-loop-c
invariant-loop-c l = Left l.s l.c.at l.previous

abbrev pub decreases-loop-c : goal.decreases-loop-c
decreases-loop-c l = length l.s - l.c.at
