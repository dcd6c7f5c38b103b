-- The limits of document 01's Sizes that no edition moves, and the places that arrays have.
use Rattle.std.specs.Prelude.{ℕ, ◌*◌, Bool, true, ltb, leb}
use Rattle.numbers.specs.Choice.{pick, between}

-- the places that a layout's and a view's dimensions have
abbrev pub rank_places : ℕ
rank_places = 5

abbrev pub layout_places : ℕ
layout_places = 4

abbrev pub view_places : ℕ
view_places = 4

abbrev pub register_count : ℕ
register_count = 4

-- the most rows and columns of a matrix, whatever its edition
abbrev pub side_places : ℕ
side_places = 16

-- the places of a register's matrix: side by side
abbrev pub matrix_places : ℕ
matrix_places = side_places * side_places

-- the places of all registers' matrices
abbrev pub element_places : ℕ
element_places = register_count * matrix_places

-- a sheet has places for so many steps, whatever its edition
abbrev pub step_places : ℕ
step_places = 32

-- the most records of a tape, whatever its edition
abbrev pub record_places : ℕ
record_places = 1024

-- the largest memory
abbrev pub memory_limit : ℕ
memory_limit = 65536

-- a layout or a view has 1 to 5 dimensions
abbrev pub rank_ok : ℕ → Bool
rank_ok rank = between 1 rank_places rank

-- the largest block size, dimension and span
abbrev pub size_limit : ℕ
size_limit = 4096

-- a block size, a dimension or a span is 1 to 4,096
abbrev pub size_ok : ℕ → Bool
size_ok x = between 1 size_limit x

-- the 16 bits of the lowest offset, -4,096
abbrev pub lowest_offset : ℕ
lowest_offset = 61440

-- the 16 bits of an offset from -4,096 to 4,095
unfoldable pub offset_ok : ℕ → Bool
offset_ok x = pick (ltb x size_limit) true (leb lowest_offset x)

abbrev pub register_ok : ℕ → Bool
register_ok register = ltb register register_count
