-- A layout's dimensions as the code holds them: numbers one after the other, without the leading dimensions that are fixed.
use Rattle.std.specs.Prelude.{ℕ, zero, suc, ◌+◌, ◌-◌, ◌*◌, ◌/◌, ◌^◌, Bool, not, List, ltb, eqb, get_or, set, replicate}
use Rattle.numbers.specs.Choice.{both}
use Rattle.numbers.specs.First.{first_from}
use Rattle.numbers.specs.Lists.{line}
use Rattle.tensor_ranges.specs.Layouts.{the_dimension}
use Rattle.sheet.specs.Sizes.{rank_places}
use Rattle.sheet.specs.declared.Dimension.{Dimension}
use Rattle.sheet.specs.declared.Layout.{Layout}
use Rattle.dimensions.specs.declared.Tail.{Tail}

-- block size, dimension, stride, offset, span
abbrev pub dimension_numbers : ℕ
dimension_numbers = 5

-- the numbers of a dimension, written from a place on, and read
abbrev pub with_dimension : List ℕ → ℕ → Dimension → List ℕ
with_dimension ns at d = set (set (set (set (set ns at d.block) (at + 1) d.size) (at + 2) d.stride) (at + 3) d.offset) (at + 4) d.span

abbrev pub dimension_in : List ℕ → ℕ → Dimension
dimension_in ns at =
    record {
      block = get_or ns at 0;
      size = get_or ns (at + 1) 0;
      stride = get_or ns (at + 2) 0;
      offset = get_or ns (at + 3) 0;
      span = get_or ns (at + 4) 0;
    }

-- those of dimension d
abbrev pub dimension_put : Layout → List ℕ → ℕ → List ℕ
dimension_put l ns d = with_dimension ns (dimension_numbers * d) (the_dimension l.dimensions d)

-- the numbers of all five dimensions
unfoldable pub layout_numbers : Layout → List ℕ
layout_numbers l =
    dimension_put l (dimension_put l (dimension_put l (dimension_put l (dimension_put l (replicate (rank_places * dimension_numbers) 0) 0) 1) 2) 3) 4

-- what a dimension adds to the tensor index at the most: 4,096 times 65,536
abbrev pub part_limit : ℕ
part_limit = 2 ^ 28

-- a dimension of span 1 whose offset lies in it: every element has the same coordinate there, the offset
unfoldable pub fixed : Dimension → Bool
fixed d = both (eqb d.span 1) (ltb d.offset d.size)

-- what it adds to the tensor index
abbrev pub fixed_part : Dimension → ℕ
fixed_part d = d.offset / d.block * d.stride

-- how many leading dimensions are fixed
unfoldable pub lead : Layout → ℕ
lead l = first_from (λ (d : ℕ). not (fixed (the_dimension l.dimensions d))) 0 l.rank

-- what the first n dimensions add where they are fixed
unfoldable pub lead_start : Layout → ℕ → ℕ
lead_start l zero = 0
lead_start l (suc n) = lead_start l n + fixed_part (the_dimension l.dimensions n)

-- the dimensions after the leading ones that are fixed
unfoldable pub tail_of : Layout → Tail
tail_of l = record { rank = l.rank - lead l; start = lead_start l (lead l) }

-- and their numbers, from the start of the places on
unfoldable pub tail_numbers : Layout → List ℕ
tail_numbers l =
    line (layout_numbers l) 0 (λ (k : ℕ). get_or (layout_numbers l) (dimension_numbers * lead l + k) 0) (dimension_numbers * (l.rank - lead l))
