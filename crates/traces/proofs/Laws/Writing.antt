-- How many bytes a trace takes, and traces one after the other.
use Rattle.std.specs.Prelude.{◌*◌, ◌≡◌, refl, List, [], ◌∷◌, ◌++◌, length}
use Rattle.std.proofs.Common.{◌∙◌, append_assoc, append-nil, arith, length-append}
use Rattle.fields.specs.Bytes.{field_bytes}
use Rattle.traces.specs.Events.{event_length}
use Rattle.traces.specs.Writing.{event_bytes, trace_bytes}
use Rattle.traces.specs.declared.Event.{Event}

pub length_event : (e : Event) → length (event_bytes e) ≡ event_length
unfolding event_bytes field_bytes
length_event e = refl

pub length_trace : (es : List Event) → length (trace_bytes es) ≡ length es * event_length
unfolding trace_bytes
length_trace [] = refl
length_trace (e ∷ es) = length-append (event_bytes e) (trace_bytes es) ∙ omega (arith, length_event e, length_trace es)

pub trace_append : (es fs : List Event) → trace_bytes (es ++ fs) ≡ trace_bytes es ++ trace_bytes fs
unfolding trace_bytes
trace_append [] fs = refl
trace_append (e ∷ es) fs = rw (trace_append es fs, append_assoc)

pub trace_one : (e : Event) → trace_bytes (e ∷ []) ≡ event_bytes e
unfolding trace_bytes
trace_one e = append-nil (event_bytes e)
