-- How long a sheet can be, and how many bytes decide what is read.
use Rattle.std.specs.Prelude.{ℕ, ◌+◌, ◌*◌}
use Rattle.sheet.specs.Sizes.{rank_places, layout_places, view_places, step_places}
use Rattle.contents.specs.Contents.{layout_length, view_length}

-- the most bytes that a field takes: its head, and the content of the most dimensions
abbrev pub longest_layout : ℕ
longest_layout = 3 + layout_length rank_places

abbrev pub longest_view : ℕ
longest_view = 3 + view_length rank_places rank_places

-- the content of a vector step
abbrev pub longest_step : ℕ
longest_step = 3 + 19

-- an edition, and as many layouts, views and steps as a sheet has places for, each as long as one can be
abbrev pub longest : ℕ
longest = 4 + layout_places * longest_layout + view_places * longest_view + step_places * longest_step

-- enough bytes: the longest sheet, and the longest field after it
abbrev pub enough : ℕ
enough = longest + 3 + 65535
