-- The interpretations of a vector step's input: a kind, or packed, where a word of 32 bits holds four components of 8 bits.
use Rattle.std.specs.Prelude.{ℕ, Bool, true}
use Rattle.numbers.specs.Choice.{pick, between}
use Rattle.kinds.specs.Widths.{kind_ok}

abbrev pub packed_signed : ℕ
packed_signed = 8

abbrev pub packed_unsigned : ℕ
packed_unsigned = 9

abbrev pub packed : ℕ → Bool
packed interpretation = between packed_signed packed_unsigned interpretation

unfoldable pub interpretation_ok : ℕ → Bool
interpretation_ok interpretation = pick (kind_ok interpretation) true (packed interpretation)
