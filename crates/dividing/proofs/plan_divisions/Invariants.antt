use mathlib.Core.Path.{◌≡◌}
use mathlib.Core.List.{[], ◌∷◌}
use Prim.Native.Nat.{ℕ, ◌*◌, ◌≤◌}
use Rattle.numbers.specs.Lists.{each}
use Rattle.sheet.specs.Sizes.{rank_places}
use Rattle.dividing.specs.Divisions.{element_divisions, total}
use Rattle.dividing.proofs.plan_divisions.Given as goal

abbrev pub invariant-loop-k : goal.invariant-loop-k
invariant-loop-k l = (l.sum ≤ l.k * rank_places) × (l.sum ≡ total (each l.k (λ (i : ℕ). element_divisions l.p.access i ∷ [])))
