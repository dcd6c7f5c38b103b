-- The bytes of a field: a one-byte tag, a two-byte length, then the content.
use Rattle.std.specs.Prelude.{ℕ, List, [], ◌∷◌, ◌++◌, length}
use Rattle.numbers.specs.Little.{u16_bytes}

abbrev pub head_bytes : ℕ → ℕ → List ℕ
head_bytes tag len = (tag ∷ []) ++ u16_bytes len

unfoldable pub field_bytes : ℕ → List ℕ → List ℕ
field_bytes tag content = head_bytes tag (length content) ++ content
