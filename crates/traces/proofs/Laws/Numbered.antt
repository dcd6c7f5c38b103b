-- The events of a trace that is not refused are those found by their numbers.
use Rattle.std.specs.Prelude.{ℕ, ◌+◌, ◌*◌, ◌/◌, ◌<◌, ◌≡◌, refl, List, [], ◌∷◌, ◌++◌, length, get_or}
use Rattle.std.proofs.Common.{◌∙◌, append_assoc, append-nil, arith}
use Rattle.numbers.specs.Lists.{each}
use Rattle.numbers.specs.Laws.Lists.{each_more}
use Rattle.numbers.specs.Laws.Joins.{length_each, each_at}
use Rattle.traces.specs.Events.{event_length}
use Rattle.traces.specs.Reading.{Trace, read_trace}
use Rattle.traces.specs.Numbered.{event_in, events_in}
use Rattle.traces.proofs.Laws.Ways.{Ways, reads}
use Rattle.traces.specs.declared.Event.{Event}
use Rattle.traces.specs.declared.Previous.{Previous}

module _ (s : List ℕ) where
  abbrev first : ℕ → List Event
  first n = each n (λ (i : ℕ). event_in s i ∷ [])

  -- from field k on: the first k events, and those that are read, are all
  abbrev Rest : ℕ → Previous → Trace → Type 0
  Rest at previous t = (k : ℕ) → at ≡ k * event_length → t.refusal.number ≡ 0 → first k ++ t.events ≡ first (length s / event_length)

  rest_ways : Ways s Rest
  rest_ways = record {
    refused = λ at previous n h p k e z. absurd (omega arith);
    ended = λ at previous q k e z.
        let m : length s / event_length ≡ k = omega arith in
        rw m (append-nil (first k));
    taken = λ at previous rest t more k e z.
        let m = more (k + 1) (omega arith) z in
        rw (← m, each_more k, append_assoc, e);
  }

pub accepted_events : (s : List ℕ) → (read_trace s).refusal.number ≡ 0 → (read_trace s).events ≡ events_in s
unfolding events_in each
accepted_events s e = reads s (Rest s) (rest_ways s) 0 refl e

-- they are as many as fields, and event i is event i
pub events_count : (s : List ℕ) → length (events_in s) ≡ length s / event_length
unfolding events_in
events_count s = length_each 1 (length s / event_length) (λ (i : ℕ). event_in s i ∷ []) (λ k h. refl) ∙ omega arith

pub events_at_lem : (s : List ℕ) (i : ℕ) (d : Event) → i < length s / event_length → get_or (events_in s) i d ≡ event_in s i
unfolding events_in
events_at_lem s i d h = each_at (length s / event_length) (event_in s) i d h
