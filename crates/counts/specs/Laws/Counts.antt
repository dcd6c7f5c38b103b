-- Elements that are counted one after the other.
use Rattle.std.specs.Prelude.{ℕ, ◌+◌, ◌≡◌}
use Rattle.std.proofs.Common.{add-zero, add_assoc}
use Rattle.counts.specs.declared.Counts.{Counts}
use Rattle.counts.specs.Counts.{more_placed}

pub placed_none : (c : Counts) → more_placed c 0 ≡ c
placed_none c = rw (add-zero c.placed)

pub placed_more : (c : Counts) (m n : ℕ) → more_placed (more_placed c m) n ≡ more_placed c (m + n)
placed_more c m n = rw (add_assoc c.placed m n)
