-- How many bytes a field takes.
use Rattle.std.specs.Prelude.{ℕ, ◌+◌, ◌≡◌, List, length}
use Rattle.std.proofs.Common.{arith}
use Rattle.fields.specs.Bytes.{field_bytes}

pub length_field : (tag : ℕ) (content : List ℕ) → length (field_bytes tag content) ≡ 3 + length content
unfolding field_bytes
length_field tag content = omega arith
