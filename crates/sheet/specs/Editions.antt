-- Everything that depends on a sheet's edition.
use Rattle.std.specs.Prelude.{ℕ, Bool, true, leb, eqb}
use Rattle.numbers.specs.Choice.{pick, between}
use Rattle.sheet.specs.Codes.{vector_tag}
use Rattle.sheet.specs.declared.Object.{Object}
use Rattle.sheet.specs.declared.Object.TheVariants.{Kept, Zeros}
use Rattle.sheet.specs.declared.editions.SizeLimits.{SizeLimits}

-- editions are 1 to the newest
abbrev pub newest_edition : ℕ
newest_edition = 3

abbrev pub edition_ok : ℕ → Bool
edition_ok edition = between 1 newest_edition edition

-- the edition that brought the vector step
abbrev pub vector_edition : ℕ
vector_edition = 2

abbrev pub has_vectors : ℕ → Bool
has_vectors edition = leb vector_edition edition

-- the edition from which on a load without an object starts from zeros
abbrev pub zeros_edition : ℕ
zeros_edition = 3

abbrev pub object_is_zeros : ℕ → Bool
object_is_zeros edition = leb zeros_edition edition

-- what no object means: zeros of the register's own type, or in an older edition the register as it stands
unfoldable pub no_object : ℕ → Object
no_object edition = pick (object_is_zeros edition) Zeros Kept

-- a step's tag of a later edition is not known in an older one; before any edition each is, so that the order decides
unfoldable pub tag_known : ℕ → ℕ → Bool
tag_known edition tag = pick (eqb edition 0) true (pick (eqb tag vector_tag) (has_vectors edition) true)

-- the most rows and columns of a matrix, steps of a sheet, and records of a tape
unfoldable pub limits : ℕ → SizeLimits
limits edition = record { side = 16; steps = 32; records = 1024 }

-- rows and columns are 1 to the edition's limit
abbrev pub side_ok : ℕ → ℕ → Bool
side_ok edition x = between 1 (limits edition).side x

-- the bytes of a fill's content
unfoldable pub fill_length : ℕ → ℕ
fill_length edition = 8
