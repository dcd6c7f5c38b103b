-- Kinds: 0 u8, 1 s8, 2 u16, 3 s16, 4 u32, 5 s32. An element is its raw bits, below 2 to its width.
use Rattle.std.specs.Prelude.{ℕ, ◌^◌, ◌/◌, Bool, ltb, leb}
use Rattle.numbers.specs.Choice.{pick, between}

abbrev pub u8 : ℕ
u8 = 0

abbrev pub s8 : ℕ
s8 = 1

abbrev pub s16 : ℕ
s16 = 3

abbrev pub u32 : ℕ
u32 = 4

abbrev pub s32 : ℕ
s32 = 5

abbrev pub kind_ok : ℕ → Bool
kind_ok kind = leb kind 5

-- the kinds of 32 bits, which sums of products are of
abbrev pub word_kind : ℕ → Bool
word_kind kind = between u32 s32 kind

-- the width of a kind in bits
unfoldable pub width : ℕ → ℕ
width kind = pick (ltb kind 2) 8 (pick (ltb kind 4) 16 32)

-- the bytes of an element: 1, 2 or 4
unfoldable pub bytes_of : ℕ → ℕ
bytes_of kind = width kind / 8

-- x is the raw bits of an element of the kind
unfoldable pub fits : ℕ → ℕ → Bool
fits kind x = ltb x (2 ^ width kind)
