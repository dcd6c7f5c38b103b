-- A field: a one-byte tag, a two-byte length, then the content.
use Rattle.std.specs.Prelude.{ℕ, ◌+◌, ◌-◌, List, length, get_or, ltb, leb}
use Rattle.numbers.specs.Choice.{pick}
use Rattle.numbers.specs.Little.{u16_at}
use Rattle.fields.specs.declared.Field.{Field}
use Rattle.fields.specs.declared.Field.TheVariants.{Whole, Short}

-- what stands at a byte: a whole field, or too few bytes for its head or for its content
unfoldable pub field_at : List ℕ → ℕ → Field
field_at s at =
    pick (ltb (length s - at) 3) Short
    (pick (leb (u16_at s (at + 1)) (length s - (at + 3)))
    (Whole (get_or s at 0) (at + 3) (u16_at s (at + 1)) (record { at = at + 3 + u16_at s (at + 1) }))
    Short)
