-- Lists of bytes, and that bytes written over bytes leave bytes.
use Rattle.std.specs.Prelude.{ℕ, ◌<◌, List, length, get_or}

-- each number of s is a byte
abbrev pub AreBytes : List ℕ → Type 0
AreBytes s = (i : ℕ) → i < length s → get_or s i 0 < 256
