-- How many records a tape may have.
use Rattle.std.specs.Prelude.{ℕ, ◌*◌, Bool, leb}
use Rattle.numbers.specs.Choice.{both}
use Rattle.sheet.specs.Editions.{limits}
use Rattle.records.specs.Records.{record_length}

-- the records of a tape are at most its edition's limit, and the room holds their six numbers each
unfoldable pub records_fit : ℕ → ℕ → ℕ → Bool
records_fit edition room records = both (leb records (limits edition).records) (leb (records * record_length) room)
