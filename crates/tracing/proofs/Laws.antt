-- Fields written one after the other, and the answers.
use Prim.Native.Nat.{ℕ, ◌+◌, ◌*◌, ◌<◌, ◌≤◌}
use mathlib.Core.Path.{◌≡◌, refl, sym, ◌∙◌}
use mathlib.Core.List.{List, [], ◌∷◌, ◌++◌}
use native.Mathlib.Omega.{arith}
use borrow.Author.Tests.{eq-eqb, ne_eqb, lt-ltb, le-ltb}
use lib.ListN.{length}
use lib.Seq.{sets}
use Rattle.numbers.specs.Choice.{pick}
use Rattle.numbers.specs.Lists.{each}
use Rattle.numbers.specs.Laws.Lists.{each_more, puts_after}
use Rattle.numbers.specs.Laws.Joins.{length_each}
use Rattle.refusals.specs.Refusals.{room_too_short, refusal_at, not_refused}
use Rattle.checking.specs.Checking.{checked_sheet}
use Rattle.checking.specs.declared.CheckAnswer.{CheckAnswer}
use Rattle.traces.specs.Events.{event_length}
use Rattle.traces.specs.Writing.{event_bytes, trace_bytes}
use Rattle.traces.proofs.Laws.Writing.{length_trace, trace_append, trace_one}
use Rattle.traces.specs.declared.Event.{Event}
use Rattle.tracing.specs.Tracing.{trace_answer, traced_events, traced_length, traced, traced_room}

-- the fields of more events, after those of some
pub fields_after : (out : List ℕ) (at : ℕ) (es fs : List Event) {out₁ : List ℕ} {n : ℕ} → n ≡ length es → out₁ ≡ sets out at (trace_bytes es)
    → sets out₁ (at + n * event_length) (trace_bytes fs) ≡ sets out at (trace_bytes (es ++ fs))
fields_after out at es fs {out₁} {n} e p =
    let here : at + n * event_length ≡ at + length (trace_bytes es) = omega (arith, length_trace es, e) in
    rw (trace_append es fs, here) (puts_after out at (trace_bytes es) (trace_bytes fs) p refl)

-- one more of those that a function gives
pub field_after : (out : List ℕ) (at : ℕ) (f : ℕ → Event) (k : ℕ) {out₁ out₂ : List ℕ} {e : Event} → out₁ ≡ sets out at (trace_bytes (each k (λ (i : ℕ). f i ∷ [])))
    → e ≡ f k → out₂ ≡ sets out₁ (at + k * event_length) (event_bytes e) → out₂ ≡ sets out at (trace_bytes (each (k + 1) (λ (i : ℕ). f i ∷ [])))
field_after out at f k p is q =
    let es = each k (λ (i : ℕ). f i ∷ []) in
    let n : length es ≡ k = length_each 1 k (λ (i : ℕ). f i ∷ []) (λ i h. refl) ∙ omega arith in
    rw (each_more k (λ (i : ℕ). f i ∷ [])) (q ∙ rw (is, ← trace_one (f k)) (fields_after out at es (f k ∷ []) (sym n) p))

module _ (s : List ℕ) (len : ℕ) {c : CheckAnswer} (is : c ≡ checked_sheet s len) where
  -- refused by the check
  pub refused_answer_lem : (room : ℕ) → 0 < c.refusal.number → trace_answer c.refusal 0 ≡ traced s len room
  unfolding traced pick
  refused_answer_lem room n = rw (← is, ne_eqb c.refusal.number 0 (λ e. omega arith)) refl

  pub refused_room : (out : List ℕ) → 0 < c.refusal.number → out ≡ traced_room s len out
  unfolding traced_room pick
  refused_room out n = rw (← is, ne_eqb c.refusal.number 0 (λ e. omega arith)) refl

  module _ (fine : c.refusal.number ≡ 0) where
    -- 19
    pub short_answer : (room : ℕ) → room < traced_length s len → trace_answer (refusal_at room_too_short 0 0) 0 ≡ traced s len room
    unfolding traced pick
    short_answer room h = rw (← is, eq-eqb c.refusal.number 0 fine, lt-ltb room (traced_length s len) h) refl

    pub short_room : (out : List ℕ) → length out < traced_length s len → out ≡ traced_room s len out
    unfolding traced_room pick
    short_room out h = rw (← is, eq-eqb c.refusal.number 0 fine, lt-ltb (length out) (traced_length s len) h) refl

    -- the trace
    pub trace_answer_lem : (room : ℕ) → traced_length s len ≤ room → trace_answer not_refused (traced_length s len) ≡ traced s len room
    unfolding traced pick
    trace_answer_lem room h = rw (← is, eq-eqb c.refusal.number 0 fine, le-ltb room (traced_length s len) h) refl

    pub trace_room : (out : List ℕ) → traced_length s len ≤ length out → sets out 0 (trace_bytes (traced_events s len)) ≡ traced_room s len out
    unfolding traced_room pick
    trace_room out h = rw (← is, eq-eqb c.refusal.number 0 fine, le-ltb (length out) (traced_length s len) h) refl
