-- What the outcome of an element says of the dimension named beside it: what a theorem speaks of.
use Rattle.std.specs.Prelude.{ℕ, ◌≡◌}
use Rattle.outcomes.specs.declared.Outcome.{Outcome}
use Rattle.outcomes.specs.declared.Outcome.TheVariants.{Skipped, Filled, Discarded, Placed}
use Rattle.outcomes.specs.declared.Outside.{Outside}
use Rattle.outcomes.specs.declared.Outside.TheVariants.{Nowhere}

-- a skipped element has none, a filled one and a discarded one have one, and one with a byte may have one; the first number is that of the element's refusal,
-- beside which its outcome says nothing
abbrev pub Beside : ℕ → Outcome → Outside → Type 0
Beside refusal Skipped x = refusal ≡ 0 → x ≡ Nowhere
Beside refusal (Filled bits) x = x ≡ Nowhere → ⊥
Beside refusal Discarded x = x ≡ Nowhere → ⊥
Beside refusal (Placed byte) x = Unit {0}
