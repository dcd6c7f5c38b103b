-- Request T-04: the masks beside a tape. A step's mask has a bit for each of 256 elements, set exactly where the element has a byte,
-- and the number of set bits.
use Rattle.std.specs.Prelude.{ℕ, zero, suc, ◌+◌, ◌*◌, ◌/◌, ◌%◌, ◌^◌, Bool, List, [], ◌∷◌, ◌++◌, eqb, ltb, get_or}
use Rattle.numbers.specs.Choice.{both}
use Rattle.numbers.specs.Lists.{each}
use Rattle.numbers.specs.Little.{u16_bytes}
use Rattle.sheet.specs.Sizes.{matrix_places, step_places}
use Rattle.outcomes.specs.declared.Outcome.{Outcome}
use Rattle.outcomes.specs.declared.Outcome.TheVariants.{Skipped}
use Rattle.accesses.specs.Refusals.{placed_one}

-- the bytes of a step's bits
abbrev pub bit_bytes : ℕ
bit_bytes = matrix_places / 8

-- and of its mask: the count takes two more
abbrev pub mask_bytes : ℕ
mask_bytes = bit_bytes + 2

-- the bytes of a mask area, which holds all steps
abbrev pub mask_area : ℕ
mask_area = step_places * mask_bytes

-- of the outcomes of a step's elements, 1 where element e has a byte; an element that the step does not have has none
unfoldable pub bit_of : List Outcome → ℕ → ℕ
bit_of os e = placed_one (get_or os e Skipped)

-- the number whose n binary digits are bit p, bit (p + 1), .., lowest first
unfoldable pub packed : (ℕ → ℕ) → ℕ → ℕ → ℕ
packed bit p zero = 0
packed bit p (suc n) = bit p + 2 * packed bit (p + 1) n

-- f 0 + f 1 + .. + f (n - 1): of bits, how many of the first n are set
unfoldable pub sum_of : (ℕ → ℕ) → ℕ → ℕ
sum_of f zero = 0
sum_of f (suc n) = sum_of f n + f n

-- byte j of a step's bits: element e is bit e mod 8, lowest first, of byte e / 8 rounded down
abbrev pub bit_byte : (ℕ → ℕ) → ℕ → List ℕ
bit_byte bit j = packed bit (8 * j) 8 ∷ []

-- a step's mask: its bits, then the number of set bits, little-endian
unfoldable pub mask_of : (ℕ → ℕ) → List ℕ
mask_of bit = each bit_bytes (bit_byte bit) ++ u16_bytes (sum_of bit matrix_places)

-- the masks of n steps with these outcomes, one after the other
abbrev pub masks_of : (ℕ → List Outcome) → ℕ → List ℕ
masks_of os n = each n (λ (s : ℕ). mask_of (bit_of (os s)))

-- where a step's mask begins
abbrev pub mask_place : ℕ → ℕ
mask_place step = step * mask_bytes

-- Did a step touch an element? By its mask; no outside the steps, the elements and the area.
unfoldable pub touched : List ℕ → ℕ → ℕ → Bool
touched masks step element =
    both (ltb step step_places)
    (both (ltb element matrix_places) (eqb (get_or masks (mask_place step + element / 8) 0 / 2 ^ (element % 8) % 2) 1))
