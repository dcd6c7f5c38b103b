-- What the bytes of a trace say, field by field to its end: refusals 1, 2, 4, 5 and 26 in this order at each field.
use Rattle.std.specs.Prelude.{ℕ, zero, suc, List, [], ◌∷◌, eqb, ltb, length}
use Rattle.numbers.specs.Choice.{pick}
use Rattle.refusals.specs.Refusals.{cut_short, unknown_tag, wrong_length, beyond_sizes, not_after, refusal_at, not_refused}
use Rattle.refusals.specs.declared.Refusal.{Refusal}
use Rattle.fields.specs.Fields.{field_at}
use Rattle.fields.specs.declared.Field.{Field}
use Rattle.fields.specs.declared.Field.TheVariants.{Whole, Short}
use Rattle.traces.specs.Events.{event_tag, content_length, event_at, event_ok, is_after}
use Rattle.traces.specs.declared.Event.{Event}
use Rattle.traces.specs.declared.Previous.{Previous}
use Rattle.traces.specs.declared.Previous.TheVariants.{None, Some}

-- the refusal of the first field that is refused, and the events of those before it
pub record Trace : Type 0 where
  pub refusal : Refusal
  pub events : List Event

abbrev pub trace : Refusal → List Event → Trace
trace r es = record { refusal = r; events = es }

-- refusals 2, 4, 5 and 26 of a field whose content is the len bytes from p; 0 where it is taken
unfoldable pub field_refusal : List ℕ → ℕ → ℕ → ℕ → Previous → ℕ
field_refusal s tag p len previous =
    pick (eqb tag event_tag)
    (pick (eqb len content_length)
    (pick (event_ok (event_at s p))
    (pick (is_after previous (event_at s p)) 0 not_after)
    beyond_sizes)
    wrong_length)
    unknown_tag

-- the place of a refusal is the byte of the field's head
abbrev pub refused_trace : ℕ → ℕ → Trace
refused_trace number at = trace (refusal_at number at 0) []

-- one field: reading is over, or goes on at a byte after an event
pub data Turn : Type 0 where
  over : Trace → Turn
  on : ℕ → Event → Turn

unfoldable pub turn_field : List ℕ → ℕ → Previous → Field → Turn
turn_field s at previous (Whole tag start len next) =
    pick (eqb (field_refusal s tag start len previous) 0)
    (on next.at (event_at s start))
    (over (refused_trace (field_refusal s tag start len previous) at))
turn_field s at previous Short = over (refused_trace cut_short at)

-- at the end there is nothing to refuse
unfoldable pub turn : List ℕ → ℕ → Previous → Turn
turn s at previous = pick (ltb at (length s)) (turn_field s at previous (field_at s at)) (over (trace not_refused []))

abbrev pub with_event : Event → Trace → Trace
with_event e rest = trace rest.refusal (e ∷ rest.events)

unfoldable pub after_turn : (ℕ → Previous → Trace) → Turn → Trace
after_turn f (over r) = r
after_turn f (on at e) = with_event e (f at (Some e))

-- at most n turns more, from a byte on; the first clause is never reached from read_trace
unfoldable pub read_from : ℕ → List ℕ → ℕ → Previous → Trace
read_from zero s at previous = refused_trace cut_short at
read_from (suc n) s at previous = after_turn (read_from n s) (turn s at previous)

-- each field has three bytes at least, so one turn more than there are bytes is enough
unfoldable pub read_trace : List ℕ → Trace
read_trace s = read_from (suc (length s)) s 0 None
