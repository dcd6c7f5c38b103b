-- What holds however reading ends, and is kept by each field that is taken before it, holds of a whole reading.
use Prim.Native.Nat.{ℕ, zero, suc, ◌+◌, ◌≤◌, ◌<◌}
use Rattle.std.specs.Prelude.{◌≡◌, List, [], length}
use Rattle.std.proofs.Math.Path.{refl}
use Rattle.std.proofs.Common.{arith}
use Rattle.numbers.specs.Laws.Choice.{by_order}
use Rattle.refusals.specs.Refusals.{cut_short, not_refused}
use Rattle.fields.specs.Fields.{field_at}
use Rattle.fields.specs.Laws.Bounds.{field_in}
use Rattle.fields.specs.declared.Field.{Field}
use Rattle.fields.specs.declared.Field.TheVariants.{Whole, Short}
use Rattle.traces.specs.Events.{event_tag, content_length, event_length, event_at}
use Rattle.traces.specs.Reading.{Trace, trace, field_refusal, refused_trace, with_event, read_from, read_trace}
use Rattle.traces.proofs.Laws.Turns.{Taken, field_taken, on_suc, over_suc, turn_end, turn_short, turn_refused, turn_next}
use Rattle.traces.specs.declared.Previous.{Previous}
use Rattle.traces.specs.declared.Previous.TheVariants.{None, Some}

-- every way that reading from a byte after an event can go; P says what it gives
pub record Ways (s : List ℕ) (P : ℕ → Previous → Trace → Type 0) : Type 0 where
  pub refused : (at : ℕ) (previous : Previous) (n : ℕ) → at ≤ length s → 0 < n → P at previous (refused_trace n at)
  pub ended : (at : ℕ) (previous : Previous) → at ≡ length s → P at previous (trace not_refused [])
  pub taken :
      (at : ℕ) (previous : Previous) (rest : Trace) → Taken s event_tag (at + 3) content_length previous
      → P (at + event_length) (Some (event_at s (at + 3))) rest
      → P at previous (with_event (event_at s (at + 3)) rest)

module _ (s : List ℕ) (P : ℕ → Previous → Trace → Type 0) (w : Ways s P) where
  abbrev Reads : ℕ → ℕ → Previous → Type 0
  Reads n at previous = at ≤ length s → P at previous (read_from n s at previous)

  one_field : (n at : ℕ) (previous : Previous) → ((at : ℕ) (previous : Previous) → Reads n at previous) → (x : Field) → field_at s at ≡ x → at < length s → Reads (suc n) at previous
  one_field n at previous more Short q m h =
      rw (over_suc s at previous n (turn_short s at previous m q)) (w.refused at previous cut_short h (omega arith))
  one_field n at previous more (Whole tag start len next) q m h =
      let number = field_refusal s tag start len previous in
      by_order 0 number
      (λ p.
      rw (over_suc s at previous n (turn_refused s at previous m q refl p)) (w.refused at previous number h p))
      (λ p.
      let i = field_in s at tag start len next q in
      let t = field_taken s tag start len previous p in
      let one = on_suc s at previous n (turn_next s at previous m q refl p refl) in
      let to : next.at ≡ at + event_length = omega (arith, i.head, i.ends, t.long) in
      rw (one, to, i.head)
      (w.taken at previous (read_from n s (at + event_length) (Some (event_at s (at + 3)))) (rw (t.tagged, i.head, t.long) at t)
      (more (at + event_length) (Some (event_at s (at + 3))) (omega (arith, to, i.within, i.ends)))))

  reads_from : (n at : ℕ) (previous : Previous) → Reads n at previous
  unfolding read_from
  reads_from zero at previous h = w.refused at previous cut_short h (omega arith)
  reads_from (suc n) at previous h =
      by_order at (length s) (λ m. one_field n at previous (λ at previous. reads_from n at previous) (field_at s at) refl m h)
      (λ m.
      rw (over_suc s at previous n (turn_end s at previous m)) (w.ended at previous (omega arith)))

  pub reads : P 0 None (read_trace s)
  unfolding read_trace
  reads = reads_from (suc (length s)) 0 None (omega arith)
