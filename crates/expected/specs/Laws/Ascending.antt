-- The trace that a sheet makes ascends by step, then by element.
use Prim.Native.Nat.{ℕ, zero, suc, ◌+◌, ◌<◌}
use Rattle.std.specs.Prelude.{◌≡◌, refl, true, false, List, [], ◌∷◌, ◌++◌}
use Rattle.std.proofs.Common.{sym, append_assoc, arith, eq-eqb, ne_eqb, lt-ltb}
use Rattle.numbers.specs.Choice.{pick, both}
use Rattle.numbers.specs.Lists.{each}
use Rattle.numbers.specs.Laws.Choice.{by_place}
use Rattle.outcomes.specs.declared.Outcome.{Outcome}
use Rattle.outcomes.specs.declared.Outcome.TheVariants.{Skipped, Filled, Discarded, Placed}
use Rattle.sheet_ranges.specs.Steps.{the_step}
use Rattle.sheet.specs.declared.Sheet.{Sheet}
use Rattle.sheet.specs.declared.Tensors.{Tensors}
use Rattle.sheet.specs.declared.Step.{Step}
use Rattle.sheet.specs.declared.Step.TheVariants.{Nothing, Load, Store, Whole}
use Rattle.registers.specs.Types.{the_type}
use Rattle.registers.specs.Registers.{empty_registers}
use Rattle.registers.specs.declared.MatrixType.{MatrixType}
use Rattle.addressing.specs.Rules.{elements_of}
use Rattle.addressing.specs.declared.Access.{Access}
use Rattle.transfers.specs.Transfers.{outcome_of}
use Rattle.checking.specs.Steps.{access_of, object_register, checked_step}
use Rattle.accepted.specs.Elements.{of_access, of_step}
use Rattle.accepted.specs.Passes.{pass_from}
use Rattle.traces.specs.Events.{event_ok, is_after}
use Rattle.traces.specs.Ascending.{Ascending}
use Rattle.traces.specs.declared.Event.{Event}
use Rattle.traces.specs.declared.Previous.{Previous}
use Rattle.traces.specs.declared.Previous.TheVariants.{None, Some}
use Rattle.expected.specs.Expected.{event_of, access_events, step_events, events_at, expected}

event_ok_lem : (k e : ℕ) (o : Outcome) → event_ok (event_of k e o) ≡ true
unfolding event_ok both pick
event_ok_lem k e Skipped = refl
event_ok_lem k e (Filled bits) = refl
event_ok_lem k e Discarded = refl
event_ok_lem k e (Placed byte) = refl

-- none, or an event that is before element e of step k
abbrev Reached : ℕ → ℕ → Previous → Type 0
Reached k e None = Unit {0}
Reached k e (Some b) = (b.step < k + 1) × (b.step ≡ k → b.element < e)

after_reached : (k e : ℕ) (o : Outcome) (p : Previous) → Reached k e p → is_after p (event_of k e o) ≡ true
unfolding is_after pick
after_reached k e o None h = refl
after_reached k e o (Some b) h =
    by_place k b.step (λ q. rw (eq-eqb k b.step q, lt-ltb b.element e (h.1 (sym q))))
    (λ q. rw (ne_eqb k b.step q, lt-ltb b.step k (omega (arith, h.0))))

next_step : (k e : ℕ) (p : Previous) → Reached k e p → Reached (k + 1) 0 p
next_step k e None h = tt
next_step k e (Some b) h = (omega (arith, h.0), λ q. absurd (omega (arith, h.0)))

-- what may come where element e of step k would
abbrev Follows : ℕ → ℕ → List Event → Type 0
Follows k e es = (p : Previous) → Reached k e p → Ascending p es

-- the first n elements of step k, and the rest
elements_follow : (k : ℕ) (f : ℕ → Outcome) (n : ℕ) (rest : List Event) → Follows k n rest → Follows k 0 (each n (λ (e : ℕ). event_of k e (f e) ∷ []) ++ rest)
unfolding each
elements_follow k f zero rest h p r = h p r
elements_follow k f (suc n) rest h p r =
    rw (append_assoc (each n (λ (e : ℕ). event_of k e (f e) ∷ [])) (event_of k n (f n) ∷ []) rest)
    (elements_follow k f n (event_of k n (f n) ∷ rest)
    (λ q g. (event_ok_lem k n (f n), after_reached k n (f n) q g, h (Some (event_of k n (f n))) (omega arith, λ e. omega arith))) p r)

access_follows : (k : ℕ) (a : Access) (rest : List Event) → Follows (k + 1) 0 rest → Follows k 0 (access_events k a ++ rest)
unfolding of_access
access_follows k a rest h = elements_follow k (outcome_of a) (elements_of a) rest (λ q g. h q (next_step k (elements_of a) q g))

step_follows : (tensors : Tensors) (ts : List MatrixType) (len k : ℕ) (step : Step) (rest : List Event) → Follows (k + 1) 0 rest
    → Follows k 0 (step_events tensors ts len k step ++ rest)
unfolding of_step
step_follows tensors ts len k Nothing rest h = λ p r. h p (next_step k 0 p r)
step_follows tensors ts len k (Load register object window) rest h =
    access_follows k (access_of tensors true window (the_type ts (object_register register object)) len) rest h
step_follows tensors ts len k (Store register window) rest h = access_follows k (access_of tensors false window (the_type ts register) len) rest h
step_follows tensors ts len k (Whole whole) rest h = λ p r. h p (next_step k 0 p r)

module _ (sh : Sheet) (len : ℕ) where
  steps_follow : (n k : ℕ) (ts : List MatrixType) → Follows k 0 (pass_from (events_at sh len) n sh len k ts)
  unfolding pass_from
  steps_follow zero k ts p r = tt
  steps_follow (suc n) k ts p r =
      let step = the_step sh.step k in
      let after = (checked_step sh.edition sh.tensors ts len step).types in
      step_follows sh.tensors ts len k step (pass_from (events_at sh len) n sh len (k + 1) after) (steps_follow n (k + 1) after) p r

  pub expected_ascends : Ascending None (expected sh len)
  unfolding expected
  expected_ascends = steps_follow sh.steps 0 empty_registers.types None tt
