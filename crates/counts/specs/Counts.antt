-- What a job counts: how many elements of loads and stores had a byte.
use Rattle.std.specs.Prelude.{ℕ, ◌+◌}
use Rattle.counts.specs.declared.Counts.{Counts}

-- nothing is counted yet
abbrev pub no_counts : Counts
no_counts = record { placed = 0 }

-- n more elements had a byte
abbrev pub more_placed : Counts → ℕ → Counts
more_placed c n = record { placed = c.placed + n }

-- one more element had a byte
abbrev pub one_placed : Counts → Counts
one_placed c = more_placed c 1
