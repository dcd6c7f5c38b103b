-- Little-endian elements in memory, of so many bytes.
use Rattle.std.specs.Prelude.{ℕ, zero, suc, ◌+◌, ◌*◌, ◌/◌, ◌%◌, ◌^◌, List, get_or}
use Rattle.numbers.specs.Lists.{line}

-- the number whose bytes stand from a byte on, the lowest first
unfoldable pub element_at : List ℕ → ℕ → ℕ → ℕ
element_at memory byte zero = 0
element_at memory byte (suc n) = get_or memory (byte + n) 0 * 2 ^ (8 * n) + element_at memory byte n

-- byte i of a number, the lowest being byte 0
abbrev pub byte_of : ℕ → ℕ → ℕ
byte_of x i = x / 2 ^ (8 * i) % 2 ^ 8

-- memory with the lowest bytes of x written from a byte on
unfoldable pub with_element : List ℕ → ℕ → ℕ → ℕ → List ℕ
with_element memory byte size x = line memory byte (byte_of x) size
