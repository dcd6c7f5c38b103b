-- The marks by which the code finds a byte twice: a bit for each byte, 32 to a word.
use Rattle.std.specs.Prelude.{ℕ, ◌-◌, ◌/◌, ◌%◌, ◌^◌, Bool, true, List, eqb, get_or, set, replicate}
use Rattle.std.specs.Int.Bits.{bit_or}
use Rattle.numbers.specs.Choice.{pick}
use Rattle.clashes.specs.Entries.{has_byte}

-- the words
abbrev pub mark_words : ℕ
mark_words = 2048

unfoldable pub no_marks : List ℕ
no_marks = replicate mark_words 0

-- the word and the bit of an entry's byte
abbrev pub word_of : ℕ → ℕ
word_of x = (x - 1) / 32

abbrev pub bit_of : ℕ → ℕ
bit_of x = (x - 1) % 32

-- the bit at a place of a word
abbrev pub bit_at : ℕ → ℕ → ℕ
bit_at word place = word / 2 ^ place % 2

-- an entry's byte has no mark
unfoldable pub unmarked : List ℕ → ℕ → Bool
unmarked ws x = pick (has_byte x) (eqb (bit_at (get_or ws (word_of x) 0) (bit_of x)) 0) true

unfoldable pub with_mark : List ℕ → ℕ → List ℕ
with_mark ws x = pick (has_byte x) (set ws (word_of x) (bit_or (get_or ws (word_of x) 0) (2 ^ bit_of x))) ws
