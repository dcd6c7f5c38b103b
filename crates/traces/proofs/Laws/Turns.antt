-- Reading goes by turns, one for each field: what each turn gives, by the ways that it can go.
use Rattle.std.specs.Prelude.{ℕ, suc, ◌-◌, ◌≤◌, ◌<◌, ◌≡◌, true, List, [], eqb, length}
use Rattle.std.proofs.Common.{ap, ◌∙◌, arith}
use borrow.Author.Tests.{lt-ltb, le-ltb, eq-eqb, ne_eqb, eqb-true}
use Rattle.numbers.specs.Choice.{pick}
use Rattle.numbers.specs.Laws.Choice.{pick_case}
use Rattle.refusals.specs.Refusals.{cut_short, unknown_tag, wrong_length, beyond_sizes, not_after, not_refused}
use Rattle.fields.specs.Fields.{field_at}
use Rattle.fields.specs.declared.Cursor.{Cursor}
use Rattle.fields.specs.declared.Field.TheVariants.{Whole, Short}
use Rattle.traces.specs.Events.{event_tag, content_length, event_at, event_ok, is_after}
use Rattle.traces.specs.Reading.{Trace, trace, field_refusal, refused_trace, over, on, turn_field, turn, with_event, after_turn, read_from}
use Rattle.traces.specs.declared.Event.{Event}
use Rattle.traces.specs.declared.Previous.{Previous}
use Rattle.traces.specs.declared.Previous.TheVariants.{Some}

-- a field that is not refused
pub record Taken (s : List ℕ) (tag start len : ℕ) (previous : Previous) : Type 0 where
  pub tagged : tag ≡ event_tag
  pub long : len ≡ content_length
  pub ok : event_ok (event_at s start) ≡ true
  pub after : is_after previous (event_at s start) ≡ true

pub field_taken : (s : List ℕ) (tag start len : ℕ) (previous : Previous) → field_refusal s tag start len previous ≤ 0 → Taken s tag start len previous
unfolding field_refusal
field_taken s tag start len previous =
    pick_case P (eqb tag event_tag) _ unknown_tag
    (λ t. pick_case P (eqb len content_length) _ wrong_length
    (λ l. pick_case P (event_ok (event_at s start)) _ beyond_sizes
    (λ o. pick_case P (is_after previous (event_at s start)) 0 not_after
    (λ a h. record { tagged = eqb-true tag event_tag t; long = eqb-true len content_length l; ok = o; after = a })
    (λ a h. absurd (omega arith)))
    (λ o h. absurd (omega arith)))
    (λ l h. absurd (omega arith)))
    (λ t h. absurd (omega arith))
  where
    P : ℕ → Type 0
    P n = n ≤ 0 → Taken s tag start len previous

pred_suc : (n : ℕ) → 0 < n → n ≡ suc (n - 1)
pred_suc n h = omega arith

module _ (s : List ℕ) (at : ℕ) (previous : Previous) where
  pub on_suc : (f : ℕ) {at' : ℕ} {e : Event} → turn s at previous ≡ on at' e → read_from (suc f) s at previous ≡ with_event e (read_from f s at' (Some e))
  unfolding read_from after_turn
  on_suc f q = rw q

  pub over_suc : (f : ℕ) {r : Trace} → turn s at previous ≡ over r → read_from (suc f) s at previous ≡ r
  unfolding read_from after_turn
  over_suc f q = rw q

  pub turn_on : (f : ℕ) {at' : ℕ} {e : Event} → 0 < f → turn s at previous ≡ on at' e → read_from f s at previous ≡ with_event e (read_from (f - 1) s at' (Some e))
  turn_on f h q = ap (λ (n : ℕ). read_from n s at previous) (pred_suc f h) ∙ on_suc (f - 1) q

  pub turn_over : (f : ℕ) {r : Trace} → 0 < f → turn s at previous ≡ over r → read_from f s at previous ≡ r
  turn_over f h q = ap (λ (n : ℕ). read_from n s at previous) (pred_suc f h) ∙ over_suc (f - 1) q

  pub turn_end : length s ≤ at → turn s at previous ≡ over (trace not_refused [])
  unfolding turn pick
  turn_end h = rw (le-ltb at (length s) h)

  pub turn_short : at < length s → field_at s at ≡ Short → turn s at previous ≡ over (refused_trace cut_short at)
  unfolding turn turn_field pick
  turn_short h q = rw (lt-ltb at (length s) h, q)

  module _ {tag start len : ℕ} {next : Cursor} (h : at < length s) (q : field_at s at ≡ Whole tag start len next) where
    pub turn_refused : {n : ℕ} → n ≡ field_refusal s tag start len previous → 0 < n → turn s at previous ≡ over (refused_trace n at)
    unfolding turn turn_field pick
    turn_refused {n} r p = rw (lt-ltb at (length s) h, q, ← r, ne_eqb n 0 (λ z. omega arith))

    pub turn_next : {n : ℕ} {e : Event} → n ≡ field_refusal s tag start len previous → n ≤ 0 → e ≡ event_at s start → turn s at previous ≡ on next.at e
    unfolding turn turn_field pick
    turn_next {n} r p w = rw (lt-ltb at (length s) h, q, ← r, eq-eqb n 0 (omega arith), w)
