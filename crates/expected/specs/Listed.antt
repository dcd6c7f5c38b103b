-- The events of an access as the code holds them: in the entries of a survey.
use Rattle.std.specs.Prelude.{ℕ, List, [], ◌∷◌}
use Rattle.numbers.specs.Lists.{each}
use Rattle.accepted.specs.Accepted.{entries_outcome}
use Rattle.traces.specs.declared.Event.{Event}
use Rattle.expected.specs.Expected.{event_of}

-- the event of element e of step k; the bits that fill an element are no part of its event
abbrev pub listed_event : ℕ → List ℕ → ℕ → Event
listed_event k entries e = event_of k e (entries_outcome entries 0 e)

-- those of n elements
unfoldable pub listed_events : ℕ → List ℕ → ℕ → List Event
listed_events k entries n = each n (λ (e : ℕ). listed_event k entries e ∷ [])
