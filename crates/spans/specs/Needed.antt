-- T-02's count by its own words: exactly one division for each dimension whose span is above 1 while the index isn't 0.
use Rattle.std.specs.Prelude.{ℕ, zero, suc, ◌+◌, ◌/◌, Bool, ltb}
use Rattle.numbers.specs.Choice.{pick, both}
use Rattle.sheet.specs.declared.Layout.{Layout}
use Rattle.view_indices.specs.Indices.{span_of}

-- how many of the numbers below n pass a test
unfoldable pub how_many : (ℕ → Bool) → ℕ → ℕ
how_many test zero = 0
how_many test (suc n) = how_many test n + pick (test n) 1 0

-- the index at dimension d of n: by then it is divided by the span of each later dimension
unfoldable pub index_at : (ℕ → ℕ) → ℕ → ℕ → ℕ → ℕ
index_at span zero index d = index
index_at span (suc n) index d = pick (ltb d n) (index_at span n (index / span n) d) index

-- the dimensions whose span is above 1 while the index isn't 0
abbrev pub needed_divisions : Layout → ℕ → ℕ
needed_divisions l index = how_many (λ (d : ℕ). both (ltb 1 (span_of l d)) (ltb 0 (index_at (span_of l) l.rank index d))) l.rank
