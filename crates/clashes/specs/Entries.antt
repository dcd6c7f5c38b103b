-- The numbers by which the code looks for refusal 15, one for each element: its entry, one more than its byte where it has one.
use Rattle.std.specs.Prelude.{ℕ, ◌+◌, Bool, not, List, eqb, ltb, get_or}
use Rattle.numbers.specs.Choice.{both}
use Rattle.sheet.specs.Sizes.{memory_limit}

-- the entries of a filled element and of a discarded one, past those of the bytes
abbrev pub filled_entry : ℕ
filled_entry = memory_limit + 1

abbrev pub discarded_entry : ℕ
discarded_entry = memory_limit + 2

-- an entry is that of an element with a byte
unfoldable pub has_byte : ℕ → Bool
has_byte x = both (not (eqb x 0)) (ltb x filled_entry)

-- an entry y is the byte of an entry x
unfoldable pub hits : ℕ → ℕ → Bool
hits y x = both (has_byte x) (eqb y x)

-- which two elements have the same byte, by their entries
abbrev pub same_entry : List ℕ → ℕ → ℕ → Bool
same_entry entries j i = hits (get_or entries j 0) (get_or entries i 0)
