-- A choice by a test, the tests of ranges, and the laws by which a proof follows the way that the code took.
use Rattle.std.specs.Prelude.{ℕ, Bool, true, false, ltb, leb}

-- x where the test is true, else y
unfoldable pub pick : {A : Type 0} → Bool → A → A → A
pick true x y = x
pick false x y = y

-- both tests are true; the second is looked at only where the first is
unfoldable pub both : Bool → Bool → Bool
both a b = pick a b false

-- x is from low to high
unfoldable pub between : ℕ → ℕ → ℕ → Bool
between low high x = pick (ltb x low) false (leb x high)
