-- The fields of a trace that is not refused have twelve bytes each, so an event is found by its number.
use Rattle.std.specs.Prelude.{ℕ, ◌+◌, ◌*◌, ◌/◌, List, [], ◌∷◌, length}
use Rattle.numbers.specs.Lists.{each}
use Rattle.traces.specs.Events.{event_length, event_at}
use Rattle.traces.specs.declared.Event.{Event}

-- event i, past the head of field i
abbrev pub event_in : List ℕ → ℕ → Event
event_in s i = event_at s (i * event_length + 3)

unfoldable pub events_in : List ℕ → List Event
events_in s = each (length s / event_length) (λ (i : ℕ). event_in s i ∷ [])
