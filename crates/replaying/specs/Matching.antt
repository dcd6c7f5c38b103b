-- The events of a sheet, which come one by one, beside those of a trace: how many came, and how many of them the trace has from its beginning on.
use Rattle.std.specs.Prelude.{ℕ, ◌+◌, Bool, List, [], ◌∷◌, eqb, ltb, length, get_or}
use Rattle.numbers.specs.Choice.{pick, both}
use Rattle.traces.specs.Events.{same_event}
use Rattle.traces.specs.declared.Event.{Event}
use Rattle.replaying.specs.declared.Matched.{Matched}

abbrev pub matched : ℕ → ℕ → Matched
matched index count = record { index = index; count = count }

abbrev pub no_event : Event
no_event = record { step = 0; element = 0; sort = 0; byte = 0 }

-- the trace goes on with x: all before was in it, and its next event is x
unfoldable pub goes_on : List Event → Matched → Event → Bool
goes_on ys m x = both (eqb m.index m.count) (both (ltb m.index (length ys)) (same_event x (get_or ys m.index no_event)))

unfoldable pub match_one : List Event → Matched → Event → Matched
match_one ys m x = matched (pick (goes_on ys m x) (m.index + 1) m.index) (m.count + 1)

unfoldable pub match_all : List Event → Matched → List Event → Matched
match_all ys m [] = m
match_all ys m (x ∷ xs) = match_all ys (match_one ys m x) xs
