-- The bytes of a trace: a field for each event.
use Rattle.std.specs.Prelude.{ℕ, List, [], ◌∷◌, ◌++◌}
use Rattle.numbers.specs.Little.{u16_bytes, u32_bytes}
use Rattle.fields.specs.Bytes.{field_bytes}
use Rattle.traces.specs.Events.{event_tag}
use Rattle.traces.specs.declared.Event.{Event}

-- step 2, element 2, sort 1, byte 4
abbrev pub content_bytes : Event → List ℕ
content_bytes e = u16_bytes e.step ++ u16_bytes e.element ++ (e.sort ∷ []) ++ u32_bytes e.byte

unfoldable pub event_bytes : Event → List ℕ
event_bytes e = field_bytes event_tag (content_bytes e)

unfoldable pub trace_bytes : List Event → List ℕ
trace_bytes [] = []
trace_bytes (e ∷ es) = event_bytes e ++ trace_bytes es
