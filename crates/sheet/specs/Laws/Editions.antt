-- The limits of each edition are within the places that arrays have, and an edition that is taken is above 0.
use Rattle.std.specs.Prelude.{ℕ, ◌<◌, ◌≤◌, ◌≡◌, true}
use Rattle.std.proofs.Common.{le_refl}
use Rattle.numbers.specs.Laws.Choice.{between_low}
use Rattle.sheet.specs.Sizes.{side_places, step_places, record_places}
use Rattle.sheet.specs.Editions.{newest_edition, edition_ok, limits}

pub edition_some : (edition : ℕ) → edition_ok edition ≡ true → 0 < edition
edition_some edition e = between_low 1 newest_edition edition e

pub limits_side : (edition : ℕ) → (limits edition).side ≤ side_places
unfolding limits
limits_side edition = le_refl side_places

pub limits_steps : (edition : ℕ) → (limits edition).steps ≤ step_places
unfolding limits
limits_steps edition = le_refl step_places

pub limits_records : (edition : ℕ) → (limits edition).records ≤ record_places
unfolding limits
limits_records edition = le_refl record_places
