-- Lists as loops make them: places written one after the other, and lists joined one after the other.
use Rattle.std.specs.Prelude.{ℕ, zero, suc, ◌+◌, List, [], ◌++◌, set}

-- d with g 0 .. g (n - 1) written from place p on
unfoldable pub line : {A : Type 0} → List A → ℕ → (ℕ → A) → ℕ → List A
line d p g zero = d
line d p g (suc n) = set (line d p g n) (p + n) (g n)

-- f 0 .. f (n - 1), joined
unfoldable pub each : {A : Type 0} → ℕ → (ℕ → List A) → List A
each zero f = []
each (suc n) f = each n f ++ f n
