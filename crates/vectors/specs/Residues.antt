-- What the inner functions of a vector step give: numbers raised by 2^32 and clamped, components modulo 2^32, and sums of products over them.
use Rattle.std.specs.Prelude.{List, ℕ, ◌+◌, ◌-◌, ◌*◌, ◌^◌, leb, ℤ, pos, ◌*ℤ◌, get_or, replicate}
use Rattle.numbers.specs.Choice.{pick}
use Rattle.numbers.specs.Lists.{line}
use Rattle.numbers.specs.Remainders.{remainder}
use Rattle.kinds.specs.Widths.{bytes_of}
use Rattle.kinds.specs.Values.{value}
use Rattle.kinds.specs.Sums.{sum_z}
use Rattle.sheet.specs.Sizes.{side_places}
use Rattle.sheet.specs.declared.VectorStep.{VectorStep}
use Rattle.memory.specs.Elements.{element_at}
use Rattle.vectors.specs.Saturation.{below, above}
use Rattle.vectors.specs.Components.{component_at}

-- a number from low to high stays, another becomes the nearer end
unfoldable pub clamped : ℕ → ℕ → ℕ → ℕ
clamped low high x = pick (leb low x) (pick (leb x high) x high) low

-- the ends of a kind's range plus 2^32
abbrev pub low_raised : ℕ → ℕ
low_raised kind = 2 ^ 32 - below kind

abbrev pub high_raised : ℕ → ℕ
high_raised kind = 2 ^ 32 + above kind

-- component c modulo 2^32, and all of them
abbrev pub residue_at : List ℕ → ℕ → VectorStep → ℕ → ℕ
residue_at es kind v c = remainder (component_at es kind v c) (2 ^ 32)

unfoldable pub components_of : List ℕ → ℕ → VectorStep → List ℕ
components_of es kind v = line (replicate side_places 0) 0 (residue_at es kind v) v.columns

-- a list's elements as components
abbrev pub listed : List ℕ → ℕ → ℤ
listed xs c = pos (get_or xs c 0)

-- elements of a kind in memory, `across` bytes apart from `first` on, times a vector: the sum of the first n products
abbrev pub line_to : List ℕ → ℕ → ℕ → ℕ → (ℕ → ℤ) → ℕ → ℤ
line_to memory first across kind components n = sum_z (λ (c : ℕ). value kind (element_at memory (first + c * across) (bytes_of kind)) *ℤ components c) n
