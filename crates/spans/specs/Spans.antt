-- Rule 3 of "Where an element goes": span coordinates; and request T-02: the divisions that they take.
use Rattle.std.specs.Prelude.{ℕ, zero, suc, ◌+◌, ◌/◌, ◌%◌, min, Bool, List, ltb, set, replicate}
use Rattle.numbers.specs.Choice.{pick, both}
use Rattle.sheet.specs.Sizes.{rank_places}
use Rattle.sheet.specs.declared.Layout.{Layout}
use Rattle.view_indices.specs.Indices.{span_of, coordinates}
use Rattle.spans.specs.declared.Split.{Split}
use Rattle.spans.specs.declared.Divided.{Divided}

-- Rule 3: span coordinates, from the last dimension to the first, remainder and quotient by the span
unfoldable pub span_coordinates : Layout → ℕ → List ℕ
span_coordinates l index = coordinates (λ (d : ℕ). d) (span_of l) l.rank index (replicate rank_places 0)

-- T-02: the division is skipped where the span is 1 or the index is already 0
unfoldable pub divides : ℕ → ℕ → Bool
divides span index = both (ltb 1 span) (ltb 0 index)

-- without a division the coordinate is 0, and the index stays
abbrev pub undivided : ℕ → Split
undivided index = record { rest = 0; quotient = index; divisions = 0 }

-- Rule 3 at a dimension: remainder and quotient by the span, which are one division
unfoldable pub split_by : ℕ → ℕ → Split
split_by span index =
    pick (divides span index) (record { rest = index % span; quotient = index / span; divisions = 1 }) (undivided index)

-- a dimension's coordinate and divisions, beside those of the later ones
abbrev pub with_split : Divided → ℕ → Split → Divided
with_split r d s = record { coordinates = set r.coordinates d s.rest; divisions = r.divisions + s.divisions }

-- Rule 3 from the last of n dimensions to the first
unfoldable pub divided_from : (ℕ → ℕ) → ℕ → ℕ → Divided → Divided
divided_from span zero index r = r
divided_from span (suc n) index r = divided_from span n (split_by (span n) index).quotient (with_split r n (split_by (span n) index))

abbrev pub nothing_divided : Divided
nothing_divided = record { coordinates = replicate rank_places 0; divisions = 0 }

-- Rule 3 with its count; a layout has at most five dimensions
unfoldable pub divided : Layout → ℕ → Divided
divided l index = divided_from (span_of l) (min l.rank rank_places) index nothing_divided
