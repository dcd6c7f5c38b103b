-- Totals of joined lists.
use Rattle.std.specs.Prelude.{ℕ, ◌+◌, ◌≡◌, List, [], ◌∷◌, ◌++◌}
use Rattle.std.proofs.Common.{◌∙◌, arith}
use Rattle.numbers.specs.Lists.{each}
use Rattle.numbers.specs.Laws.Lists.{each_more}
use Rattle.dividing.specs.Divisions.{total}

pub total_append : (xs ys : List ℕ) → total (xs ++ ys) ≡ total xs + total ys
unfolding total
total_append [] ys = omega arith
total_append (x ∷ xs) ys = omega (arith, total_append xs ys)

-- one more of those that a function gives
pub total_more : (n : ℕ) (f : ℕ → ℕ) → total (each (n + 1) (λ (k : ℕ). f k ∷ [])) ≡ total (each n (λ (k : ℕ). f k ∷ [])) + f n
unfolding total
total_more n f = rw (each_more n (λ (k : ℕ). f k ∷ [])) (total_append (each n (λ (k : ℕ). f k ∷ [])) (f n ∷ []) ∙ omega arith)
