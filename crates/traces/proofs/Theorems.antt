-- A written trace is not refused, and says what was written; what a trace says ascends.
use Rattle.std.specs.Prelude.{ℕ, zero, suc, ◌+◌, ◌-◌, ◌≤◌, ◌<◌, ◌≡◌, true, length}
use Rattle.std.proofs.Common.{sym, ap, ◌∙◌, zero-add, length-append}
use mathlib.Core.List.{List, [], ◌∷◌}
use Rattle.std.proofs.Math.Nat.{add-zero}
use native.Mathlib.Omega.{arith}
use borrow.Author.Tests.{le-ltb, le-leb}
use Rattle.std.proofs.Math.ListN.{get_or}
use Rattle.numbers.specs.Choice.{pick}
use Rattle.numbers.specs.Little.{u16_at}
use Rattle.refusals.specs.Refusals.{not_refused}
use Rattle.fields.specs.Fields.{field_at}
use Rattle.fields.specs.Bytes.{field_bytes}
use Rattle.fields.specs.Laws.Stretches.{Has, has_left, has_right, has_self, u16_of, u32_of}
use Rattle.fields.specs.declared.Field.TheVariants.{Whole}
use Rattle.traces.specs.Events.{event_tag, content_length, event_length, event_at, event_ok, is_after}
use Rattle.traces.specs.Reading.{Trace, trace, field_refusal, with_event, read_from, read_trace}
use Rattle.traces.specs.Writing.{event_bytes, trace_bytes}
use Rattle.traces.specs.Ascending.{Ascending}
use Rattle.traces.proofs.Laws.Turns.{on_suc, over_suc, turn_end, turn_next}
use Rattle.traces.proofs.Laws.Ways.{reads}
use Rattle.traces.proofs.Laws.Writing.{length_event, length_trace}
use Rattle.traces.specs.declared.Event.{Event}
use Rattle.traces.specs.declared.Previous.{Previous}
use Rattle.traces.specs.declared.Previous.TheVariants.{None, Some}

-- the field of an event
module _ (s : List ℕ) (at : ℕ) (e : Event) (h : Has s at 0 (event_bytes e)) (l : at + event_length ≤ length s) where
  the_field : field_at s at ≡ Whole event_tag (at + 3) content_length (record { at = at + event_length })
  unfolding event_bytes field_bytes field_at pick
  the_field =
      let t : get_or s at 0 ≡ event_tag = rw add-zero at h.0 in
      let n : u16_at s (at + 1) ≡ content_length = u16_of s at 1 content_length h.1.0 h.1.1.0 in
      let q : at + 3 + content_length ≡ at + event_length = omega arith in
      rw (le-ltb (length s - at) 3 (omega arith), n, le-leb content_length (length s - (at + 3)) (omega arith), t, q)

  the_event : event_at s (at + 3) ≡ e
  unfolding event_bytes field_bytes event_at
  the_event =
      let two : at + 3 + 2 ≡ at + 5 = omega arith in
      let four : at + 3 + 4 ≡ at + 7 = omega arith in
      let five : at + 3 + 5 ≡ at + 8 = omega arith in
      let step = u16_of s at 3 e.step h.1.1.1.0 h.1.1.1.1.0 in
      let element = u16_of s at 5 e.element h.1.1.1.1.1.0 h.1.1.1.1.1.1.0 in
      let byte = u32_of s at 8 e.byte [] h.1.1.1.1.1.1.1.1 in
      rw (two, four, five, step, element, byte, h.1.1.1.1.1.1.1.0)

  the_turn : (n : ℕ) (previous : Previous) → event_ok e ≡ true → is_after previous e ≡ true → read_from (suc n) s at previous ≡ with_event e (read_from n s (at + event_length) (Some e))
  unfolding field_refusal pick
  the_turn n previous ok after =
      let free : 0 ≡ field_refusal s event_tag (at + 3) content_length previous = rw (the_event, ok, after) in
      on_suc s at previous n (turn_next s at previous (omega arith) the_field free (omega arith) (sym the_event))

-- fields one after the other to the end
back_from : (s : List ℕ) (n at : ℕ) (previous : Previous) (es : List Event) → Has s at 0 (trace_bytes es) → at + length (trace_bytes es) ≡ length s → length es < n → Ascending previous es
    → read_from n s at previous ≡ trace not_refused es
unfolding trace_bytes
back_from s zero at previous es h l m o = absurd (omega arith)
back_from s (suc n) at previous [] h l m o = over_suc s at previous n (turn_end s at previous (omega arith))
back_from s (suc n) at previous (e ∷ es) h l m o =
    let long : length (event_bytes e) ≡ event_length = length_event e in
    let both = length-append (event_bytes e) (trace_bytes es) in
    the_turn s at e (has_left s at 0 (event_bytes e) (trace_bytes es) h) (omega arith) n previous o.0 o.1
    ∙ ap (with_event e) (back_from s n (at + event_length) (Some e) es (rw long at (has_right s at (event_bytes e) (trace_bytes es) h)) (omega arith) (omega arith) o.2)

pub trace_back : (es : List Event) → Ascending None es → read_trace (trace_bytes es) ≡ trace not_refused es
unfolding read_trace
trace_back es o =
    let s = trace_bytes es in
    back_from s (suc (length s)) 0 None es (has_self s) (zero-add (length s)) (omega (arith, length_trace es)) o

-- events that ascend from the one before on
abbrev Rising : ℕ → Previous → Trace → Type 0
Rising at previous t = Ascending previous t.events

-- also of a trace that is refused: the events before that field
pub trace_ascends : (s : List ℕ) → Ascending None (read_trace s).events
trace_ascends s = reads s Rising (record {
  refused = λ at previous n h p. tt;
  ended = λ at previous q. tt;
  taken = λ at previous rest t more. (t.ok, t.after, more);
})
